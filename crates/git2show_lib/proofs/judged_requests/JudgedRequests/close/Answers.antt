use Rattle.std.proofs.Common.{◌≡◌, false, refl, ap, ◌∙◌}
use Rattle.git_pkt.specs.Machine.PacketReader.{position_of}
use Rattle.git_pkt.specs.declared.reader.PacketReader.{PacketReader}
use Rattle.git2show_lib.specs.Machine.JudgedRequests.{stage_is_between}
use Rattle.git2show_lib.specs.declared.judged_requests.Stage.{Stage}
use Rattle.git2show_lib.specs.declared.judged_requests.Stage.TheVariants.{Between, Within, Passing, Stopped, Failed}
use Rattle.git2show_lib.proofs.JudgedReadings.{all_whole, closed_open, closed_within}
use Rattle.git2show_lib.proofs.judged_requests.JudgedRequests.close.Goals as goal

not_between : (stage : Stage) → (stage ≡ Between → ⊥) → stage_is_between stage ≡ false
not_between Between other = absurd (other refl)
not_between Within other = refl
not_between Passing other = refl
not_between Stopped other = refl
not_between (Failed fault) other = refl

pub returns-in-Err : goal.returns-in-Err
returns-in-Err g c =
    let (opened, name, at) = c.in-Err.ensures.truncated c.requires.sound in
    (name, refl, refl, refl, closed_open c.args.self.now _ c.in-Err.fault c.requires refl refl refl name c.in-Err.ensures.carries opened at)

pub returns-in-Between : goal.returns-in-Between
returns-in-Between g c =
    let (same, sound, shut) = c.in_default.ensures.between in (
      ap (λ (p : PacketReader). record c.args.self.now { packets = p }) same,
      λ used asked h. all_whole h (ap stage_is_between c.in-Between.is) shut sound,
    )

pub returns : goal.returns
returns g c =
    let (same, sound, shut) = c.in_default.ensures.between in (
      refl,
      refl,
      refl,
      refl,
      closed_within c.args.self.now _ _ c.requires refl refl refl refl c.in_default.ensures.carries shut
          (not_between c.args.self.now.judge.stage c.in_default-stage.not-Between) (c.position.ensures ∙ ap position_of same),
    )
