use Rattle.std.proofs.Common.{rules, ◌≡◌, ◌++◌, ℕ, List, take, ap, arith, subst, refl, ◌∙◌}
use Rattle.std.proofs.lemmas.List.{length-take-le}
use Rattle.git_pkt.specs.Machine.PacketReader.{ShownByFeed}
use Rattle.git_pkt.specs.Machine.PacketReaderSteps.{Moves, IsShown}
use Rattle.git_pkt.specs.declared.fault.Fault.{Fault}
use Rattle.git_pkt.specs.declared.progress.Progress.{Progress}
use Rattle.git_pkt.specs.declared.progress.Progress.TheVariants.{Open, Whole, Failed}
use Rattle.git_pkt.proofs.Kept.{sound_unless}
use Rattle.git_pkt.proofs.ReaderMoves.{gathers_between, whole_uses, whole_behind}
use Rattle.git_pkt.proofs.KnownRest.{gathered_rest}
use Rattle.git_pkt.proofs.OpenLengths.{open_counts, shut_counts_none, whole_counts}
use Rattle.git_pkt.proofs.Carries.{carry_open, carry_whole, carry_failed}
use Rattle.git_pkt.proofs.reader.PacketReader.feed.Goals as goal

pub returns-in-Failed : goal.returns-in-Failed
returns-in-Failed c = search rules

pub returns-in-Open : goal.returns-in-Open
returns-in-Open c =
    let moves : Moves c.args.self.now (take c.step-step.result.used c.args.chunk.now) Open c.step-step.new.self =
    subst (λ (p : Progress). Moves c.args.self.now (take c.step-step.result.used c.args.chunk.now) p c.step-step.new.self)
    c.in-Open.is c.step-step.ensures.moves in (
      (
        refl,
        (λ _. tt),
        record {
          reads = carry_open _ _ _ (omega (arith, c.len.ensures.value, c.len.ensures.fits)) (sound_unless c.args.self.now.state c.in_default.not-Failed)
              c.requires.gathers moves;
          announces = (c.step-step.ensures.all c.in-Open.is, moves.arrives.no_fault);
          news = λ f sound is. absurd (cc);
          stays = λ f is. let none = sound_unless c.args.self.now.state c.in_default.not-Failed in absurd (cc);
          keeps = c.step-step.ensures.keeps;
          held = tt;
          counts = open_counts _ _ _ _ c.requires.gathers (length-take-le c.step-step.result.used c.args.chunk.now c.step-step.ensures.used) moves;
          gathers = moves.arrives.gathers;
        },
      ),
      record {
        after = tt;
        used = c.step-step.ensures.used;
        cost = record { rises = c.step-step.ensures.cost.rises; within = omega (arith, c.step-step.ensures.cost.within) };
      },
    )

pub returns-in-Failed-progress : goal.returns-in-Failed-progress
returns-in-Failed-progress c =
    let moves : Moves c.args.self.now (take c.step-step.result.used c.args.chunk.now) (Failed c.in-Failed-progress.fault) c.step-step.new.self =
    subst (λ (p : Progress). Moves c.args.self.now (take c.step-step.result.used c.args.chunk.now) p c.step-step.new.self)
    c.in-Failed-progress.is c.step-step.ensures.moves in
    let shown : ShownByFeed c.in-Failed-progress.fault c.step-step.result.used c.args.chunk.now =
    subst (λ (p : Progress). IsShown p c.step-step.result.used c.args.chunk.now) c.in-Failed-progress.is c.step-step.ensures.shown in (
      (
        refl,
        (λ _. tt),
        record {
          reads = carry_failed _ _ _ c.in-Failed-progress.fault (omega (arith, c.len.ensures.value, c.len.ensures.fits))
              (sound_unless c.args.self.now.state c.in_default.not-Failed) c.requires.gathers moves;
          announces = moves.arrives.announced ∙ (cc);
          news =
              λ f sound is.
              let same : c.in-Failed-progress.fault ≡ f = cc in
              subst (λ (g : Fault). ShownByFeed g c.step-step.result.used c.args.chunk.now) same shown;
          stays = λ f is. let none = sound_unless c.args.self.now.state c.in_default.not-Failed in absurd (cc);
          keeps = c.step-step.ensures.keeps;
          held = tt;
          counts = shut_counts_none c.step-step.new.self moves.arrives.closed;
          gathers = gathers_between c.step-step.new.self moves.arrives.closed;
        },
      ),
      record {
        after = tt;
        used = c.step-step.ensures.used;
        cost = record { rises = c.step-step.ensures.cost.rises; within = omega (arith, c.step-step.ensures.cost.within) };
      },
    )

pub returns-in-Whole : goal.returns-in-Whole
returns-in-Whole c =
    let moves : Moves c.args.self.now (take c.step-step.result.used c.args.chunk.now) Whole c.step-step.new.self =
    subst (λ (p : Progress). Moves c.args.self.now (take c.step-step.result.used c.args.chunk.now) p c.step-step.new.self)
    c.in-Whole.is c.step-step.ensures.moves in
    let behind = whole_behind c.args.self.now c.step-step.new.self _ moves in
    let uses = whole_uses c.args.self.now c.step-step.new.self _ _ moves c.packet.ensures.spells in (
      (
        refl,
        (λ _. tt),
        record {
          reads = carry_whole _ _ _ _ (omega (arith, c.len.ensures.value, c.len.ensures.fits)) (sound_unless c.args.self.now.state c.in_default.not-Failed)
              c.requires.gathers moves c.packet.ensures.spells
              (omega (arith, behind, c.len.ensures.value));
          announces = (
            omega (arith, uses, length-take-le c.step-step.result.used c.args.chunk.now c.step-step.ensures.used),
            moves.arrives.no_fault,
            moves.arrives.closed,
            c.packet.ensures.spells,
            omega (arith, behind, c.len.ensures.value),
          );
          news = λ f sound is. absurd (cc);
          stays = λ f is. let none = sound_unless c.args.self.now.state c.in_default.not-Failed in absurd (cc);
          keeps = c.step-step.ensures.keeps;
          held =
              λ rest holds.
              moves.arrives.held
              ∙ ap (λ (l : List ℕ). l ++ take c.step-step.result.used c.args.chunk.now) (gathered_rest c.args.self.now rest c.requires.gathers holds);
          counts = whole_counts _ _ _ _ _ c.requires.gathers (length-take-le c.step-step.result.used c.args.chunk.now c.step-step.ensures.used) moves
              c.packet.ensures.spells;
          gathers = gathers_between c.step-step.new.self moves.arrives.closed;
        },
      ),
      record {
        after = tt;
        used = c.step-step.ensures.used;
        cost = record { rises = c.step-step.ensures.cost.rises; within = omega (arith, c.step-step.ensures.cost.within) };
      },
    )
