use Rattle.std.proofs.Common.{ap, ◌∙◌, refl}
use Rattle.git_pkt.specs.Machine.PacketReader.{position_of}
use Rattle.git2show_lib.proofs.PassedAnswers.{cut_there, cut_between}
use Rattle.git2show_lib.proofs.other_answers.close.Goals as goal

pub returns-in-Ok : goal.returns-in-Ok
returns-in-Ok c =
    let (same, sound, shut) = c.in-Ok.ensures.between in (
      refl,
      λ used given rest reads. cut_between c.args.packets.now used given rest _ reads sound refl shut (c.position.ensures ∙ ap position_of same),
    )

pub returns-in-Err : goal.returns-in-Err
returns-in-Err c =
    let (opened, name, at) = c.in-Err.ensures.truncated c.requires in
    (name, λ used given rest reads. cut_there c.args.packets.now used given rest c.in-Err.fault reads c.requires name at)
