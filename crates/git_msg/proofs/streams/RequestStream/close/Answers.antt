use Rattle.std.proofs.Common.{refl, ap, ◌∙◌}
use Rattle.git_pkt.specs.Machine.PacketReader.{position_of}
use Rattle.git_msg.proofs.StreamEnds.{all_whole, closed_open, closed_within, same_reader}
use Rattle.git_msg.proofs.streams.RequestStream.close.Goals as goal

pub returns-in-Between : goal.returns-in-Between
returns-in-Between g c =
    let (same, sound, shut) = c.in_default.ensures.between in
    (same_reader c.args.self.now _ _ _ _ _ same, all_whole c.args.self.now c.in-Between.is sound shut)

pub returns-in-Err : goal.returns-in-Err
returns-in-Err g c =
    let sound = c.args.self.now.sound c.requires in
    let (opened, name, at) = c.in-Err.ensures.truncated sound in
    (name, refl, refl, refl, closed_open c.args.self.now _ c.in-Err.fault c.requires refl refl refl name sound c.in-Err.ensures.carries opened at)

pub returns : goal.returns
returns g c =
    let (same, sound, shut) = c.in_default.ensures.between in (
      refl,
      refl,
      refl,
      refl,
      closed_within c.args.self.now _ _ c.requires refl refl refl refl sound c.in_default.ensures.carries shut c.in_default-stage.not-Between
          (c.position.ensures ∙ ap position_of same),
    )
