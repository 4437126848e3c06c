-- Bytes that are sent one after another, until sending fails.
use Rattle.std.proofs.Common.{◌≡◌, ◌||◌, Bool, true, false, ℕ, List, [], ◌++◌, append_assoc, append-nil, Option, Result, Ok, Err, OnOk, IsErrAnd}
use Rattle.std.proofs.Common.{refl, sym, ap, ◌∙◌, subst}
use Rattle.std.proofs.lemmas.Result.{err_from_is_err_and}
use Rattle.std.proofs.KnownBytes.{Appends-nil, Appends-trans}
use Rattle.git_pkt.specs.declared.fault.RunFault.{RunFault}
use Rattle.git_pkt.specs.declared.recorded.Recorded.{Recorded}
use Rattle.git_pkt.specs.Machine.Recorded.{inner_of, has_failed, ReadsNothing}
use Rattle.git_pkt.specs.Machine.Sends.{Sends, Puts}
use Rattle.git_pkt.proofs.EngineLemmas.{AppendsFront-after, AppendsFront-longer}

or_none : (b : Bool) → (b || false) ≡ b
or_none true = refl
or_none false = refl

on_ok : {T E P : Type 0} (r : Result T E) → P → OnOk r P
on_ok (Ok x) p = p
on_ok (Err e) p = tt

reads_then : {W : Type 0} {a b c : Recorded W} → ReadsNothing a b → ReadsNothing b c → ReadsNothing a c
reads_then one two = record { reads = two.reads ∙ one.reads; ended = two.ended ∙ one.ended; wasted = two.wasted ∙ one.wasted }

module _ {W : Type 0} {contents : W → Option (List ℕ)} where
  -- nothing to send
  pub sends_nothing : {writer : Recorded W} → Sends {T = Unit {0}} contents writer [] (Ok tt) writer
  sends_nothing {writer} = record {
    ok = Appends-nil (contents (inner_of writer));
    err = tt;
    fault = tt;
    failed = sym (or_none (has_failed writer));
    reads = record { reads = refl; ended = refl; wasted = refl };
  }

  -- bytes that were sent, and then more
  pub sends_then : {S T : Type 0} {a b c : Recorded W} {u v : List ℕ} {x : S} {result : Result T RunFault} → Sends contents a u (Ok x) b
      → Sends contents b v result c → Sends contents a (u ++ v) result c
  sends_then {a = a} {b = b} {c = c} {u = u} {v = v} {result = Ok y} one two = record {
    ok = Appends-trans (contents (inner_of a)) (contents (inner_of b)) (contents (inner_of c)) u v one.ok two.ok;
    err = tt;
    fault = tt;
    failed = two.failed ∙ ap (λ (f : Bool). f || false) (one.failed ∙ or_none (has_failed a));
    reads = reads_then one.reads two.reads;
  }
  sends_then {a = a} {b = b} {c = c} {u = u} {v = v} {result = Err e} one two = record {
    ok = tt;
    err = AppendsFront-after (contents (inner_of a)) (contents (inner_of b)) (contents (inner_of c)) u v one.ok two.err;
    fault = two.fault;
    failed = two.failed ∙ ap (λ (f : Bool). f || true) (one.failed ∙ or_none (has_failed a));
    reads = reads_then one.reads two.reads;
  }

  -- the sending failed, and `?` returns the error: no byte after these was sent
  pub sends_front : {S T : Type 0} {a c : Recorded W} {u : List ℕ} {met : RunFault} {result : Result T RunFault} (v : List ℕ)
      → Sends {T = S} contents a u (Err met) c → IsErrAnd result (λ e. e ≡ met) → Sends contents a (u ++ v) result c
  sends_front {a = a} {c = c} {u = u} {met = met} {result = result} v front answered =
      let (e, is, same) = err_from_is_err_and result answered in
      subst (λ (r : Result _ RunFault). Sends contents a (u ++ v) r c) (sym (is ∙ ap Err same)) (record {
        ok = tt;
        err = AppendsFront-longer (contents (inner_of a)) (contents (inner_of c)) u v front.err;
        fault = front.fault;
        failed = front.failed;
        reads = front.reads;
      })

  -- ---- bytes that wait for the writer

  -- the bytes wait with the others
  pub puts_waiting : {a : Recorded W} {s u t : List ℕ} → t ≡ s ++ u → Puts {T = Unit {0}} contents a s u (Ok tt) a t
  puts_waiting {s = s} {u = u} joined = record { sent = []; rest = s ++ u; all = refl; sends = sends_nothing; waits = joined }

  -- all waiting bytes were sent, and then these bytes
  pub puts_sent : {a b c : Recorded W} {s u t : List ℕ} {result : Result (Unit {0}) RunFault} → Sends {T = Unit {0}} contents a s (Ok tt) b
      → Sends contents b u result c → t ≡ [] → Puts contents a s u result c t
  puts_sent {s = s} {u = u} {result = result} one two none =
      record { sent = s ++ u; rest = []; all = sym (append-nil (s ++ u)); sends = sends_then one two; waits = on_ok result none }

  -- the waiting bytes could not be sent
  pub puts_unsent : {S T : Type 0} {a c : Recorded W} {s t : List ℕ} {met : RunFault} {result : Result T RunFault} (u : List ℕ)
      → Sends {T = S} contents a s (Err met) c → IsErrAnd result (λ e. e ≡ met) → Puts contents a s u result c t
  puts_unsent {a = a} {c = c} {s = s} {t = t} {met = met} {result = result} u front answered =
      let (e, is, same) = err_from_is_err_and result answered in
      subst (λ (r : Result _ RunFault). Puts contents a s u r c t) (sym (is ∙ ap Err same)) (record {
        sent = s;
        rest = u;
        all = refl;
        sends = record { ok = tt; err = front.err; fault = front.fault; failed = front.failed; reads = front.reads };
        waits = tt;
      })

  pub puts_then : {S T : Type 0} {a b c : Recorded W} {s t x u v : List ℕ} {y : S} {result : Result T RunFault} → Puts contents a s u (Ok y) b t
      → Puts contents b t v result c x → Puts contents a s (u ++ v) result c x
  puts_then {s = s} {t = t} {u = u} {v = v} one two = record {
    sent = one.sent ++ two.sent;
    rest = two.rest;
    all = sym (append_assoc s u v) ∙ ap (λ (l : List ℕ). l ++ v) (one.all ∙ ap (λ (l : List ℕ). one.sent ++ l) (sym one.waits))
        ∙ append_assoc one.sent t v ∙ ap (λ (l : List ℕ). one.sent ++ l) two.all ∙ sym (append_assoc one.sent two.sent two.rest);
    sends = sends_then one.sends two.sends;
    waits = two.waits;
  }

  -- the sending failed, and `?` returns the error
  pub puts_front : {S T : Type 0} {a c : Recorded W} {s t x u : List ℕ} {met : RunFault} {result : Result T RunFault} (v : List ℕ)
      → Puts {T = S} contents a s u (Err met) c t → IsErrAnd result (λ e. e ≡ met) → Puts contents a s (u ++ v) result c x
  puts_front {a = a} {c = c} {s = s} {x = x} {u = u} {met = met} {result = result} v front answered =
      let (e, is, same) = err_from_is_err_and result answered in
      subst (λ (r : Result _ RunFault). Puts contents a s (u ++ v) r c x) (sym (is ∙ ap Err same)) (record {
        sent = front.sent;
        rest = front.rest ++ v;
        all = sym (append_assoc s u v) ∙ ap (λ (l : List ℕ). l ++ v) front.all ∙ append_assoc front.sent front.rest v;
        sends = record { ok = tt; err = front.sends.err; fault = front.sends.fault; failed = front.sends.failed; reads = front.sends.reads };
        waits = tt;
      })

  -- nothing waited before, and at the end all waiting bytes are sent
  pub sends_all : {S T : Type 0} {a b c : Recorded W} {u t : List ℕ} {x : S} {result : Result T RunFault} → Puts contents a [] u (Ok x) b t
      → Sends contents b t result c → Sends contents a u result c
  sends_all {a = a} {b = b} {c = c} {result = result} puts sends =
      subst (λ (l : List ℕ). Sends contents a l result c) (sym puts.all)
      (sends_then puts.sends (subst (λ (l : List ℕ). Sends contents b l result c) puts.waits sends))

  pub sends_stopped : {S T : Type 0} {a c : Recorded W} {u t : List ℕ} {met : RunFault} {result : Result T RunFault}
      → Puts {T = S} contents a [] u (Err met) c t → IsErrAnd result (λ e. e ≡ met) → Sends contents a u result c
  sends_stopped {a = a} {c = c} {result = result} puts answered =
      subst (λ (l : List ℕ). Sends contents a l result c) (sym puts.all) (sends_front puts.rest puts.sends answered)
