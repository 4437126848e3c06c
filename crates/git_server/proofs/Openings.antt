-- A server before its first byte.
use Rattle.std.proofs.Common.{arith, ◌≡◌, false, List, [], Option, None, refl, sym, ◌∙◌, subst, ap, inl}
use Rattle.git_pkt.specs.Packets.{Pkt}
use Rattle.git_msg.specs.declared.offers.Offer.{Offer}
use Rattle.git_server.specs.Repository.{RepoState}
use Rattle.git_server.specs.Sessions.{Setting, advertised}
use Rattle.git_server.specs.Machine.Phases.{FlushIsAt, LeftIn, kept_in, outcome_in, MayBreak, AreUnsent, stored_in}
use Rattle.git_server.specs.Machine.Server.{IsFresh, IsPackLost, Running, StandsBy}
use Rattle.git_server.specs.declared.outcome.Outcome.{Outcome}
use Rattle.git_server.specs.declared.server.Server.{Server}
use Rattle.git_server.specs.declared.server.Phase.{Phase}
use Rattle.git_server.proofs.Begun.{nothing_begins}
use Rattle.git_server.proofs.Outcomes.{none_lost}
use Rattle.git_server.proofs.Readers.{fresh_has_no_fault}

module _ {R A : Type 0} (state : R → RepoState) (s : Setting) (repo : R) (phase : Phase A) (server : Server R A) where
  -- nothing was used and nothing sent, and the advertisement is pending, if there is one
  pub opens : IsFresh repo s.offer s.limit phase server
      → (state repo).answers ≡ s.repo → outcome_in phase ≡ None → LeftIn phase [] → FlushIsAt phase [] → kept_in phase ≡ 0 → stored_in phase ≡ 0
      → ((unsent : List Pkt) → AreUnsent s.offer s.repo phase unsent → unsent ≡ advertised s)
      → ((unsent : List Pkt) → MayBreak s.repo phase unsent → ⊥) → (state repo).failures ≡ s.failures → Running state s [] false [] server
  opens fresh same none left flush kept stored unsent whole failures =
      let unsent_now : (l : List Pkt) → AreUnsent server.offer s.repo server.phase l → l ≡ advertised s =
      λ l has_unsent. unsent l (subst (λ (p : Phase A). AreUnsent s.offer s.repo p l) fresh.phase_is
      (subst (λ (o : Offer). AreUnsent o s.repo server.phase l) fresh.offer_is has_unsent)) in
      record {
        offer = fresh.offer_is;
        reads_for = fresh.reads_for;
        limit = fresh.limit_is;
        repo = ap (λ (r : R). (state r).answers) fresh.repo_is ∙ same;
        failures = record {
          risen = λ lost. absurd (none_lost (subst IsPackLost (ap outcome_in fresh.phase_is ∙ none) lost));
          same = λ not_lost. ap (λ (r : R). (state r).failures) fresh.repo_is ∙ failures;
        };
        within = omega (arith, fresh.kept, kept, ap kept_in fresh.phase_is);
        covered = omega (arith, stored, ap stored_in fresh.phase_is);
        fits = fresh.reads.fits;
        stands = subst (λ (o : Option Outcome). StandsBy o s [] false [] server) (sym (ap outcome_in fresh.phase_is ∙ none)) (
          refl,
          record {
            asked = [];
            packets = [];
            left = [];
            rest = [];
            sent = [];
            reads = fresh.reads;
            no_fault = fresh_has_no_fault server.reader fresh.reads;
            requests = refl;
            takes = fresh.takes;
            begins = nothing_begins s;
            left_is = subst (λ (p : Phase A). LeftIn p []) (sym fresh.phase_is) left;
            flush_at = subst (λ (p : Phase A). FlushIsAt p []) (sym fresh.phase_is) flush;
            is_sent = λ l has_unsent. inl (record { none = refl; parts = unsent_now l has_unsent });
            breaks = λ l breaks. absurd (whole l (subst (λ (p : Phase A). MayBreak s.repo p l) fresh.phase_is breaks));
            given_is = refl;
            fit = tt;
          },
        );
      }
