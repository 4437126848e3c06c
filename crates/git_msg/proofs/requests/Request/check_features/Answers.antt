use Rattle.std.proofs.Common.{arith, ◌≡◌, option_map, true, sym, ap, refl, ◌∙◌}
use Rattle.std.proofs.lemmas.List.Elements.{All-nil}
use Rattle.std.proofs.lemmas.Option.{slice_get_within}
use Rattle.git_msg.specs.Arguments.{Arg, is_offered, shown}
use Rattle.git_msg.specs.Asked.{arguments_in}
use Rattle.git_msg.specs.Machine.HeldRequest.{asked_of}
use Rattle.git_msg.proofs.KeptBytes.{all_at}
use Rattle.git_msg.proofs.OfferedArguments.{all_more, all_of_them}
use Rattle.git_msg.proofs.requests.Request.check_features.Goals as goal

pub arguments-init : goal.arguments-init
arguments-init g c = All-nil (λ arg. is_offered c.args.offer.now arg ≡ true)

pub returns-then-not-is_offered : goal.returns-then-not-is_offered
returns-then-not-is_offered g c =
    let at = sym c.argument.ensures.value ∙ ap (option_map shown) c.in-Some.is in
    let args = arguments_in (asked_of c.args.self.now) in
    (λ all. let met = all_at (λ (arg : Arg). is_offered c.args.offer.now arg ≡ true) args c.arguments.i _ all at in cc, refl)

pub arguments-smaller : goal.arguments-smaller
arguments-smaller g c =
    let at = sym c.argument.ensures.value ∙ ap (option_map shown) c.in-Some.is in
    let within = slice_get_within (arguments_in (asked_of c.args.self.now)) c.arguments.i _ at in
    omega (arith, within)

pub arguments-preserved : goal.arguments-preserved
arguments-preserved g c =
    let at = sym c.argument.ensures.value ∙ ap (option_map shown) c.in-Some.is in
    all_more (λ arg. is_offered c.args.offer.now arg ≡ true) (arguments_in (asked_of c.args.self.now)) c.arguments.i _ c.arguments.invariant at cc

pub returns : goal.returns
returns g c =
    let at = sym c.argument.ensures.value ∙ ap (option_map shown) c.in_default.is in
    all_of_them (λ arg. is_offered c.args.offer.now arg ≡ true) (arguments_in (asked_of c.args.self.now)) c.arguments.i c.arguments.invariant at
