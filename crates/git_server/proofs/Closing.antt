-- A server whose input ends.
use Rattle.std.proofs.Common.{◌≡◌, ◌≢◌, ◌⊎◌, ℕ, ◌+◌, ◌≤◌, Bool, true, false, List, [], length, Option}
use Rattle.std.proofs.Common.{Some, None, refl, sym, ap, ◌∙◌, append-nil, subst, inl, inr, arith}
use Rattle.git_pkt.specs.Packets.{Pkt}
use Rattle.git_pkt.specs.Splits.{Given}
use Rattle.git_pkt.specs.Machine.PacketReader.{bytes_held, is_open, open_length, fault_of, position_of}
use Rattle.git_pkt.specs.declared.fault.Fault.{Fault}
use Rattle.git_pkt.specs.declared.fault.Kind.TheVariants.{PackSource, Truncated}
use Rattle.git_pkt.proofs.KnownRest.{sound_rest, none_between, some_inside, rest_length}
use Rattle.git_msg.specs.Machine.RequestReader.{offer_of, limit_in, kept_so_far}
use Rattle.git_server.specs.Repository.{RepoState}
use Rattle.git_server.specs.Answers.{AllFit, spelled}
use Rattle.git_server.specs.Sessions.{Setting, EndsBy, IsTail}
use Rattle.git_server.specs.Machine.Phases.{LeftIn, outcome_in, AreUnsent, refused_by}
use Rattle.git_server.specs.Machine.Server.{IsPackLost, Running, Serves, StandsBy, outcome_of, wants_input}
use Rattle.git_server.specs.Machine.ServerCalls.{Closes, Keeps}
use Rattle.git_server.specs.declared.outcome.Outcome.{Outcome}
use Rattle.git_server.specs.declared.outcome.Outcome.TheVariants.{Closed, Refused}
use Rattle.git_server.specs.declared.server.Phase.{Phase}
use Rattle.git_server.specs.declared.server.Phase.TheVariants.{Between, Within, Ended}
use Rattle.git_server.specs.declared.server.Server.{Server}
use Rattle.git_server.proofs.Outcomes.{failures_end, other_lost}
use Rattle.git_server.proofs.Sent.{all_sent}
use Rattle.git_server.proofs.Going.{all_sent_of, no_outcome, has_unsent_at, refused_outcome_by, refused_unsent_by, serves_of, none_kept_at_end}
use Rattle.git_server.proofs.Going.{none_stored_at_end}

none_is_left : {A : Type 0} (phase : Phase A) (left : List Given) → phase ≡ Between → LeftIn phase left → left ≡ []
none_is_left {A = A} phase left is h = subst (λ (p : Phase A). LeftIn p left) is h

some_is_left : {A : Type 0} (phase : Phase A) (left : List Given) → phase ≡ Within → LeftIn phase left → left ≢ []
some_is_left {A = A} phase left is h = subst (λ (p : Phase A). LeftIn p left) is h

module _ {R A : Type 0} (state : R → RepoState) (old new : Server R A) where
  ends_here : (s : Setting) (so_far : List ℕ) (over : Bool) (before : List ℕ) (outcome : Outcome) → wants_input old ≡ true → Keeps state old new
      → (r : Running state s so_far over before old) → (h : Serves s so_far before old) → bytes_held new.reader ≤ 65520
      → EndsBy s true h.left h.rest (length so_far) outcome
      → outcome_of new ≡ Some outcome → ((unsent : List Pkt) → AreUnsent new.offer s.repo new.phase unsent → IsTail s h.left outcome unsent)
      → ¬ IsPackLost (Some outcome)
      → Running state s so_far true before new
  ends_here s so_far over before outcome wants keeps r h fits ends outcome_is tail other =
      let all = all_sent s h.asked h.sent (all_sent_of state old new [] s so_far before wants h) in
      record {
        offer = keeps.offer ∙ r.offer;
        reads_for = ap offer_of keeps.requests ∙ r.reads_for;
        limit = ap limit_in keeps.requests ∙ r.limit;
        repo = ap (λ (x : RepoState). x.answers) keeps.repo ∙ r.repo;
        failures = failures_end (outcome_of old) (outcome_of new) s.failures _ _ (no_outcome old.phase wants)
            (ap (λ (x : RepoState). x.failures) keeps.repo) (λ lost. other (subst IsPackLost outcome_is lost)) r.failures;
        within = omega (arith, r.within, ap kept_so_far keeps.requests, none_kept_at_end new.phase outcome outcome_is);
        covered = omega (arith, none_stored_at_end new.phase outcome outcome_is);
        fits = fits;
        stands = subst (λ (o : Option Outcome). StandsBy o s so_far true before new) (sym outcome_is) (λ unsent has_unsent. record {
          asked = h.asked;
          left = h.left;
          rest = h.rest;
          answers = all.answers;
          sent = [];
          stream = record { packets = h.packets; splits = h.reads.splits; requests = h.requests };
          ends = ends;
          answered = all.answered;
          parts = tail unsent has_unsent;
          given_is = h.given_is ∙ ap spelled (all.sent_is ∙ sym (append-nil _));
          fit = subst AllFit (all.sent_is ∙ sym (append-nil _)) h.fit;
        });
      }

  -- between two requests
  pub closes_between : bytes_held new.reader ≤ 65520 → wants_input old ≡ true → Keeps state old new → old.phase ≡ Between
      → new.phase ≡ Ended Closed → fault_of old.reader ≡ None → is_open old.reader ≡ false → Closes state old new
  closes_between fits wants keeps was is sound shut s so_far over before r =
      let h = serves_of state old new [] s so_far over before wants r in
      let known = sound_rest old.reader 0 so_far h.packets h.rest sound h.reads in (
        ends_here s so_far over before Closed wants keeps r h fits (
          refl,
          none_is_left old.phase h.left was h.left_is,
          none_between old.reader h.rest known.0 shut,
        ) (ap outcome_in is) (λ unsent has_unsent. sym (has_unsent_at state old new [] s (Ended Closed) unsent is has_unsent))
            (λ (fault, closed, lost). let e = closed in cc),
        inl (ap outcome_in is),
      )

  cut_short : (s : Setting) (so_far : List ℕ) (over : Bool) (before : List ℕ) (fault : Fault) → wants_input old ≡ true → Keeps state old new
      → (r : Running state s so_far over before old) → (h : Serves s so_far before old)
      → bytes_held new.reader ≤ 65520 → fault_of old.reader ≡ None
      → (h.left ≢ []) ⊎ (h.rest ≢ []) → fault.kind ≡ Truncated → fault.offset + length h.rest ≡ length so_far → new.phase ≡ refused_by fault.kind fault
      → Running state s so_far true before new
  cut_short s so_far over before fault wants keeps r h fits sound inside name at is =
      let known = sound_rest old.reader 0 so_far h.packets h.rest sound h.reads in
      let other : fault.kind ≢ PackSource = λ lost. let same : Truncated ≡ PackSource = sym name ∙ lost in cc in
      ends_here s so_far over before (Refused fault) wants keeps r h fits
      (inl (inr (inr (record {
        ended = refl;
        begins = h.begins;
        unrefused = known.1;
        inside = inside;
        name = name;
        at = at;
      }))))
      (ap outcome_in is ∙ refused_outcome_by A fault.kind fault)
      (λ unsent has_unsent. refused_unsent_by A new.offer s h.left fault.kind fault unsent other
      (has_unsent_at state old new [] s (refused_by fault.kind fault) unsent is has_unsent))
      (other_lost fault other)

  -- inside a request, between two packets
  pub closes_within : (fault : Fault) → bytes_held new.reader ≤ 65520 → wants_input old ≡ true → Keeps state old new → old.phase ≡ Within
      → new.phase ≡ refused_by fault.kind fault
      → fault_of old.reader ≡ None → is_open old.reader ≡ false → fault.kind ≡ Truncated → fault.offset ≡ position_of old.reader → Closes state old new
  closes_within fault fits wants keeps was is sound shut name at s so_far over before r =
      let h = serves_of state old new [] s so_far over before wants r in
      let known = sound_rest old.reader 0 so_far h.packets h.rest sound h.reads in
      let empty : h.rest ≡ [] = none_between old.reader h.rest known.0 shut in
      let place : fault.offset + length h.rest ≡ length so_far = omega (arith, ap length empty, h.reads.position, at) in (
        cut_short s so_far over before fault wants keeps r h fits sound (inl (some_is_left old.phase h.left was h.left_is)) name place is,
        inr (fault, ap outcome_in is ∙ refused_outcome_by A fault.kind fault, name),
      )

  -- inside a packet
  pub closes_open : (fault : Fault) → bytes_held new.reader ≤ 65520 → wants_input old ≡ true → Keeps state old new
      → new.phase ≡ refused_by fault.kind fault
      → (fault_of old.reader ≡ None
      → (is_open old.reader ≡ true) × (fault.kind ≡ Truncated) × (fault.offset + open_length old.reader ≡ position_of old.reader))
      → Closes state old new
  closes_open fault fits wants keeps is truncated s so_far over before r =
      let h = serves_of state old new [] s so_far over before wants r in
      let known = sound_rest old.reader 0 so_far h.packets h.rest h.no_fault h.reads in
      let (begun, name, at) = truncated h.no_fault in
      let place : fault.offset + length h.rest ≡ length so_far = omega (arith, rest_length old.reader h.rest known.0, h.reads.position, at) in (
        cut_short s so_far over before fault wants keeps r h fits h.no_fault (inr (some_inside old.reader h.rest known.0 begun)) name place is,
        inr (fault, ap outcome_in is ∙ refused_outcome_by A fault.kind fault, name),
      )
