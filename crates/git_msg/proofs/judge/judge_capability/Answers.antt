use Rattle.std.proofs.Common.{rules, Bool, Option, List, ℕ, Result, Ok, Err}
use Rattle.std.specs.Prelude.{MatchResult}
use Rattle.std.specs.Option.{option_copied}
use Rattle.git_pkt.specs.declared.fault.Kind.{Kind}
use Rattle.git_msg.specs.declared.offers.Offer.{Offer}
use Rattle.git_msg.specs.declared.capability_key.Key.{Key}
use Rattle.git_msg.specs.declared.judge.Noted.{Noted}
use Rattle.git_msg.specs.Texts.{IsErrorText}
use Rattle.git_msg.specs.Checks.{Passes, Refuses}
use Rattle.git_msg.specs.Machine.JudgedLine.{line_of}
use Rattle.git_msg.specs.Lines.{HasKey, IsLineOf, IsCapabilityLine, capability_checks, key_checks}
use Rattle.git_msg.proofs.judge.judge_capability.Goals as goal

by_its_key : (offer : Offer) (first : Bool) (text : List ℕ) (key : Key) (value : Option (List ℕ)) (result : Result Noted Kind)
    → ¬ IsErrorText text → HasKey text key value
    → MatchResult result (λ noted. Passes (key_checks offer first key value) × IsLineOf key value (line_of noted)) (Refuses (key_checks offer first key value))
    → MatchResult result (λ noted. IsCapabilityLine offer first text (line_of noted)) (Refuses (capability_checks offer first text))
by_its_key offer first text key value (Ok noted) clean has h = search rules
by_its_key offer first text key value (Err kind) clean has h = search rules

pub returns-clause-line : goal.returns-clause-line
returns-clause-line c =
    let clean : ¬ IsErrorText c.args.text.now = search rules in
    (by_its_key c.args.offer.now c.args.first c.args.text.now c.read_key-key.result (option_copied c.in_ok-capability.capability.value)
    c.judge_key.result clean
    (record { word = c.in_ok-capability.capability.key.now; is_capability = c.in_ok-capability.ensures.line; is_word = c.read_key-key.ensures.word })
    c.judge_key.ensures.line)
