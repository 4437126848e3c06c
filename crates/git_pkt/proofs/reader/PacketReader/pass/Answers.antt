use Rattle.std.proofs.Common.{arith, ◌≡◌, inl, inr, ◌-◌, [], drop, length, take, ap, sym, ◌∙◌, refl}
use Rattle.std.proofs.lemmas.Bool.{cases_lt}
use Rattle.std.proofs.lemmas.List.{length-take-le}
use Rattle.git_pkt.specs.Machine.PacketReader.{held_of}
use Rattle.git_pkt.specs.Machine.ReaderState.{come_in, fault_in}
use Rattle.git_pkt.specs.declared.reader.State.{State}
use Rattle.git_pkt.specs.declared.reader.State.TheVariants.{Passing}
use Rattle.git_pkt.proofs.Kept.{kept_in}
use Rattle.git_pkt.proofs.OpenLengths.{shut_rises}
use Rattle.git_pkt.proofs.BandCarries.{bands_stay, may_pass_passing, may_pass_shut, never_fatal}
use Rattle.git_pkt.proofs.BandPasses.{bands_pass_open, bands_pass_whole, bands_stop, shown_at_last, stopped_fault}
use Rattle.git_pkt.proofs.reader.PacketReader.pass.Goals as goal

pub returns-then-most-eq0-clause-moves : goal.returns-then-most-eq0-clause-moves
returns-then-most-eq0-clause-moves c = record {
  passes = may_pass_passing c.args.self.now c.args.left c.requires.passing;
  rises = omega arith;
  comes = record {
    all = omega (arith, (kept_in c.args.self.now (Passing c.args.left) c.requires.passing).some);
    no_fault = ap fault_in c.requires.passing;
    goes = bands_stay c.args.self.now;
  };
}

pub returns-then-used-eq0-clause-moves : goal.returns-then-used-eq0-clause-moves
returns-then-used-eq0-clause-moves c =
    let stopped = c.stop-fault.ensures.announced in
    record {
      passes = may_pass_shut c.stop-fault.new.self stopped.closed;
      rises = shut_rises c.stop-fault.new.self _ stopped.closed;
      comes = record {
        announced = stopped_fault c.args.self.now c.stop-fault.new.self _ _ _ stopped;
        shown = shown_at_last c.args.self.now c.stop-fault.new.self _ _ _ _ stopped (omega arith);
        goes = bands_stop c.args.self.now c.stop-fault.new.self c.args.left _ c.requires.passing stopped c.stop-fault.ensures.held
            (omega (arith, c.args.self.now.within));
      };
    }

pub returns-then-used-left-clause-moves : goal.returns-then-used-left-clause-moves
returns-then-used-left-clause-moves c =
    let kept = kept_in c.args.self.now (Passing c.args.left) c.requires.passing in
    let used = c.min-used.result in
    let taken : length (take used c.args.chunk.now) ≡ used = length-take-le used c.args.chunk.now (omega arith) in
    record {
      passes = λ gathers. absurd (cc);
      rises = omega (arith, kept.fits, ap (λ (s : State). come_in s c.args.self.now.field) c.requires.passing);
      comes = record {
        bytes = take used c.args.chunk.now;
        not_fatal = never_fatal (drop 4 (held_of c.args.self.now)) c.in-Some.band (sym c.band.ensures.value ∙ c.in-Some.is);
        long = taken;
        is_part = record {
          uses = omega (arith, kept.some);
          some = omega (arith, taken, kept.some);
          fits = omega (arith, taken, kept.fits, kept.gathering.fits (omega (arith, kept.five)));
          front = [];
          lies = refl;
          no_fault = refl;
          all = λ _. elim (cases_lt used (length c.args.chunk.now)) [
            | inl less ↦ inr (omega (arith, c.args.self.now.within))
            | inr all ↦ inl (omega arith)
          ];
          few = omega (arith, kept.five);
        };
        goes = bands_pass_open c.args.self.now _ c.args.left (c.args.left - used) (take used c.args.chunk.now) c.in-Some.band (record {
          was = c.requires.passing;
          hold = refl;
          field = refl;
          position = omega (arith, taken);
          band_is = sym c.band.ensures.value ∙ c.in-Some.is;
        }) refl (omega arith) (omega (arith, taken));
      };
    }

pub returns-clause-moves : goal.returns-clause-moves
returns-clause-moves c =
    let kept = kept_in c.args.self.now (Passing c.args.left) c.requires.passing in
    let used = c.min-used.result in
    let taken : length (take used c.args.chunk.now) ≡ used = length-take-le used c.args.chunk.now (omega arith) in
    record {
      passes = λ gathers. refl;
      rises = omega arith;
      comes = record {
        bytes = take used c.args.chunk.now;
        not_fatal = never_fatal (drop 4 (held_of c.args.self.now)) c.in-Some.band (sym c.band.ensures.value ∙ c.in-Some.is);
        long = taken;
        is_part = record {
          uses = omega (arith, kept.some);
          some = omega (arith, taken, kept.some);
          fits = omega (arith, taken, kept.fits, kept.gathering.fits (omega (arith, kept.five)));
          front = [];
          lies = refl;
          no_fault = refl;
          all = λ e. absurd (cc);
          few = omega (arith, kept.five);
        };
        goes = bands_pass_whole c.args.self.now _ c.args.left (take used c.args.chunk.now) c.in-Some.band (record {
          was = c.requires.passing;
          hold = refl;
          field = refl;
          position = omega (arith, taken);
          band_is = sym c.band.ensures.value ∙ c.in-Some.is;
        }) refl (omega (arith, taken));
      };
    }
