use Rattle.std.proofs.Common.{arith, ◌≡◌, ◌+◌, ◌-◌, ◌≤◌, ℕ, false, true, List, [], ◌++◌, length, take, drop, is_some, ap, sym, ◌∙◌, subst, length-append}
use Rattle.std.proofs.lemmas.List.{append-nil, length-take, length-take-le, take-append-drop}
use Rattle.git_pkt.specs.Passed.{begins_band}
use Rattle.git_pkt.specs.Machine.BandReader.{ReadsBandsOn}
use Rattle.git_pkt.specs.Machine.PacketReader.{ShownByFeed, bytes_held, held_of, rest_of}
use Rattle.git_pkt.specs.Machine.PacketReaderSteps.{IsShown, Moves}
use Rattle.git_pkt.specs.declared.progress.Progress.{Progress}
use Rattle.git_pkt.specs.declared.progress.Progress.TheVariants.{Open, Whole, Failed}
use Rattle.git_pkt.proofs.Chunks.{left_of}
use Rattle.git_pkt.proofs.Spelling.{no_bytes}
use Rattle.git_pkt.proofs.OpenLengths.{shut_rises}
use Rattle.git_pkt.proofs.BandCarries.{may_pass_shut}
use Rattle.git_pkt.proofs.BandSteps.{bands_after, empty_goes, empty_uses, failed_goes, first_five, gathers_unless, open_goes, open_rises, rest_long, short_free}
use Rattle.git_pkt.proofs.BandSteps.{take_front, whole_comes}
use Rattle.git_pkt.proofs.reader.PacketReader.band_step.Goals as goal

pub returns-then-is_some : goal.returns-then-is_some
returns-then-is_some c =
    let old = c.args.self.now in
    let new = c.step-first.new.self in
    let used = c.step-first.result.used in
    let u = take used (take c.min-front.result c.args.chunk.now) in
    let moves : Moves old u Whole new = subst (λ (p : Progress). Moves old u p new) c.in-Whole.is c.step-first.ensures.moves in
    let gathers = gathers_unless old.state c.in_default.not-Passing in
    let fits : bytes_held c.step-first.new.self ≤ 65520 = omega (arith, c.len.ensures.value, c.len.ensures.fits) in
    let taken = length-take-le used (take c.min-front.result c.args.chunk.now) c.step-first.ensures.used in
    let few : length u ≤ 5 - length (rest_of old) =
    omega (arith, rest_long old, c.gathered.ensures.value, taken, length-take c.min-front.result c.args.chunk.now) in
    let banded : begins_band (drop 4 (held_of new)) ≡ true =
    ap is_some (sym c.band.ensures.value) ∙ sym c.is_some.ensures ∙ c.if-is_some.true in
    record {
      used = omega (arith, length-take c.min-front.result c.args.chunk.now);
      moves = record {
        passes = may_pass_shut new moves.arrives.closed;
        rises = shut_rises new _ moves.arrives.closed;
        comes = record {
          some = omega (arith, taken, empty_uses old new u fits c.requires.sound gathers (c.requires.passes gathers) moves);
          no_fault = moves.arrives.no_fault;
          goes = subst (λ (l : List ℕ). ReadsBandsOn old l [] [] new) (take_front used c.min-front.result c.args.chunk.now c.step-first.ensures.used)
              (empty_goes old new u fits c.requires.sound gathers (c.requires.passes gathers) moves banded few);
        };
      };
      keeps = c.step-first.ensures.keeps;
      cost = record {
        rises = omega (arith, c.step-first.ensures.cost.rises);
        within = omega (arith, c.step-first.ensures.cost.within);
      };
    }

pub returns-else-is_some : goal.returns-else-is_some
returns-else-is_some c =
    let old = c.args.self.now in
    let new = c.step-first.new.self in
    let used = c.step-first.result.used in
    let u = take used (take c.min-front.result c.args.chunk.now) in
    let moves : Moves old u Whole new = subst (λ (p : Progress). Moves old u p new) c.in-Whole.is c.step-first.ensures.moves in
    let gathers = gathers_unless old.state c.in_default.not-Passing in
    let fits : bytes_held c.step-first.new.self ≤ 65520 = omega (arith, c.len.ensures.value, c.len.ensures.fits) in
    let free : begins_band (drop 4 (held_of new)) ≡ false =
    ap is_some (sym c.band.ensures.value) ∙ sym c.is_some.ensures ∙ c.if-is_some.false in
    let within : used ≤ length c.args.chunk.now = omega (arith, length-take c.min-front.result c.args.chunk.now) in
    record {
      used = within;
      moves = record {
        passes = may_pass_shut new moves.arrives.closed;
        rises = shut_rises new _ moves.arrives.closed;
        comes = whole_comes old new u fits c.requires.sound gathers (c.requires.passes gathers) c.args.chunk.now used
            (take_front used c.min-front.result c.args.chunk.now c.step-first.ensures.used) within moves free;
      };
      keeps = c.step-first.ensures.keeps;
      cost = record {
        rises = omega (arith, c.step-first.ensures.cost.rises);
        within = omega (arith, c.step-first.ensures.cost.within);
      };
    }

pub returns-in-Failed : goal.returns-in-Failed
returns-in-Failed c =
    let old = c.args.self.now in
    let new = c.step-first.new.self in
    let used = c.step-first.result.used in
    let u = take used (take c.min-front.result c.args.chunk.now) in
    let moves : Moves old u (Failed c.in-Failed.fault) new =
    subst (λ (p : Progress). Moves old u p new) c.in-Failed.is c.step-first.ensures.moves in
    let gathers = gathers_unless old.state c.in_default.not-Passing in
    let fits : bytes_held c.step-first.new.self ≤ 65520 = omega (arith, c.len.ensures.value, c.len.ensures.fits) in
    let taken = length-take-le used (take c.min-front.result c.args.chunk.now) c.step-first.ensures.used in
    let few : length u ≤ 5 - length (rest_of old) =
    omega (arith, rest_long old, c.gathered.ensures.value, taken, length-take c.min-front.result c.args.chunk.now) in
    let shown : ShownByFeed c.in-Failed.fault used (take c.min-front.result c.args.chunk.now) =
    subst (λ (p : Progress). IsShown p used (take c.min-front.result c.args.chunk.now)) c.in-Failed.is c.step-first.ensures.shown in
    record {
      used = omega (arith, length-take c.min-front.result c.args.chunk.now);
      moves = record {
        passes = may_pass_shut new moves.arrives.closed;
        rises = shut_rises new _ moves.arrives.closed;
        comes = record {
          announced = moves.arrives.announced;
          shown = record {
            not_the_end = shown.not_the_end;
            one_more = λ e. omega (arith, shown.one_more e, length-take c.min-front.result c.args.chunk.now);
          };
          goes = subst (λ (l : List ℕ). ReadsBandsOn old l [] [] new) (take_front used c.min-front.result c.args.chunk.now c.step-first.ensures.used)
              (failed_goes old new u fits c.requires.sound gathers (c.requires.passes gathers) c.in-Failed.fault moves
              (first_five (rest_of old) u (c.requires.passes gathers) few));
        };
      };
      keeps = c.step-first.ensures.keeps;
      cost = record {
        rises = omega (arith, c.step-first.ensures.cost.rises);
        within = omega (arith, c.step-first.ensures.cost.within);
      };
    }

pub returns-then-gathered-lt5 : goal.returns-then-gathered-lt5
returns-then-gathered-lt5 c =
    let old = c.args.self.now in
    let new = c.step-first.new.self in
    let used = c.step-first.result.used in
    let u = take used (take c.min-front.result c.args.chunk.now) in
    let moves : Moves old u Open new = subst (λ (p : Progress). Moves old u p new) c.in-Open.is c.step-first.ensures.moves in
    let gathers = gathers_unless old.state c.in_default.not-Passing in
    let fits : bytes_held c.step-first.new.self ≤ 65520 = omega (arith, c.len.ensures.value, c.len.ensures.fits) in
    let taken = length-take-le used (take c.min-front.result c.args.chunk.now) c.step-first.ensures.used in
    let few : length u ≤ 5 - length (rest_of old) =
    omega (arith, rest_long old, c.gathered.ensures.value, taken, length-take c.min-front.result c.args.chunk.now) in
    let all : used ≡ c.min-front.result =
    omega (arith, c.step-first.ensures.all c.in-Open.is, length-take c.min-front.result c.args.chunk.now) in
    let long : length (rest_of old ++ u) ≡ c.gathered-in-Open.result =
    omega (arith, rest_long new, c.gathered-in-Open.ensures.value, ap length moves.arrives.rest_is) in
    record {
      used = omega (arith);
      moves = record {
        passes = short_free old new u fits c.requires.sound gathers (c.requires.passes gathers) (omega (arith, long)) moves;
        rises = open_rises old new u fits c.requires.sound gathers (c.requires.passes gathers) c.min-front.result (omega (arith, taken, all)) moves;
        comes = record {
          all = omega (arith, long, all, taken, length-append (rest_of old) u, rest_long old, c.gathered.ensures.value);
          no_fault = moves.arrives.no_fault;
          goes = subst (λ (n : ℕ). ReadsBandsOn old (take n c.args.chunk.now) [] [] new) all
              (subst (λ (l : List ℕ). ReadsBandsOn old l [] [] new) (take_front used c.min-front.result c.args.chunk.now c.step-first.ensures.used)
              (open_goes old new u fits c.requires.sound gathers (c.requires.passes gathers) moves
              (first_five (rest_of old) u (c.requires.passes gathers) few)));
        };
      };
      keeps = λ none. c.step-first.ensures.keeps (omega (arith, all, none));
      cost = record {
        rises = omega (arith, c.step-first.ensures.cost.rises);
        within = omega (arith, c.step-first.ensures.cost.within, all);
      };
    }

pub returns-else-gathered-lt5 : goal.returns-else-gathered-lt5
returns-else-gathered-lt5 c =
    let old = c.args.self.now in
    let mid = c.step-first.new.self in
    let used = c.step-first.result.used in
    let front = c.min-front.result in
    let u = take used (take front c.args.chunk.now) in
    let moves : Moves old u Open mid = subst (λ (p : Progress). Moves old u p mid) c.in-Open.is c.step-first.ensures.moves in
    let gathers = gathers_unless old.state c.in_default.not-Passing in
    let fits : bytes_held c.step-first.new.self ≤ 65520 = omega (arith, c.len.ensures.value, c.len.ensures.fits) in
    let taken = length-take-le used (take front c.args.chunk.now) c.step-first.ensures.used in
    let few : length u ≤ 5 - length (rest_of old) =
    omega (arith, rest_long old, c.gathered.ensures.value, taken, length-take front c.args.chunk.now) in
    let all : used ≡ front = omega (arith, c.step-first.ensures.all c.in-Open.is, length-take front c.args.chunk.now) in
    let within : front ≤ length c.args.chunk.now = omega arith in
    let left = left_of c.args.chunk.now front within in
    let first : ReadsBandsOn old (take front c.args.chunk.now) [] [] mid =
    subst (λ (n : ℕ). ReadsBandsOn old (take n c.args.chunk.now) [] [] mid) all
    (subst (λ (l : List ℕ). ReadsBandsOn old l [] [] mid) (take_front used front c.args.chunk.now c.step-first.ensures.used)
    (open_goes old mid u fits c.requires.sound gathers (c.requires.passes gathers) moves (first_five (rest_of old) u (c.requires.passes gathers) few))) in
    record {
      used = omega (
        arith,
        ap length left,
        length-take front c.args.chunk.now,
        length-append (take front c.args.chunk.now) (drop front c.args.chunk.now),
        ap length (take-append-drop front c.args.chunk.now),
        c.after_five-next.ensures.used,
      );
      moves = bands_after old mid c.after_five-next.new.self (take front c.args.chunk.now) _ c.args.chunk.now c.after_five-next.result.used
          (front + c.after_five-next.result.used)
          (ap (λ (l : List ℕ). take front c.args.chunk.now ++ l) left ∙ take-append-drop front c.args.chunk.now)
          (omega (arith, length-take-le front c.args.chunk.now within))
          (open_rises old mid u fits c.requires.sound gathers (c.requires.passes gathers) (length (take front c.args.chunk.now))
          (omega (arith, taken, all, length-take-le front c.args.chunk.now within)) moves) first c.after_five-next.result.progress
          c.after_five-next.ensures.moves;
      keeps = λ none.
          let empty : u ≡ [] = no_bytes u (omega (arith, taken, all, none)) in
          let same : rest_of mid ≡ rest_of old =
          moves.arrives.rest_is ∙ ap (λ (l : List ℕ). rest_of old ++ l) empty ∙ append-nil (rest_of old) in
          let free : begins_band (drop 4 (rest_of mid)) ≡ false =
          ap (λ (l : List ℕ). begins_band (drop 4 l)) same ∙ c.requires.passes gathers in
          c.after_five-next.ensures.keeps free (omega (arith, none)) ∙ c.step-first.ensures.keeps (omega (arith, all, none));
      cost = record {
        rises = omega (arith, c.step-first.ensures.cost.rises, c.after_five-next.ensures.cost.rises);
        within = omega (arith, c.step-first.ensures.cost.within, c.after_five-next.ensures.cost.within, all);
      };
    }
