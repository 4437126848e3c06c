use Rattle.std.proofs.Common.{Option, rules, subst, sym}
use Rattle.std.specs.Option.{option_copied}
use Rattle.git_names.specs.ObjectName.{ObjectName}
use Rattle.git_msg.specs.References.{IsIdText}
use Rattle.git_msg.proofs.ReferenceWords.{left_after_names, located}
use Rattle.git_msg.proofs.reference_lines.locate_reference.Goals as goal

pub read_attributes-requires : goal.read_attributes-requires
read_attributes-requires c = search (rules, left_after_names)

pub returns-clause-line : goal.returns-clause-line
returns-clause-line c =
    let begins = c.in_ok-rest.ensures.parts in
    let others = c.in_ok-read_attributes.ensures.others in
    located c.args.format c.args.text.now begins.word c.in_ok-rest.rest.now c.in_ok-name.name.now (option_copied c.in_ok-name.words) _
    begins.words begins.parted (subst (λ (o : Option ObjectName). IsIdText c.args.format begins.word o) (sym others.0) begins.is_id)
    c.in_ok-name.ensures.parts others.1 c.in_ok-read_attributes.ensures.values
