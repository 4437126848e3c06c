-- The steps of a machine that judges a conversation: a response is received as it comes, and its lines wait.
use Rattle.std.proofs.Common.{arith, ◌≡◌, ℕ, ◌+◌, ◌-◌, ◌≤◌, true, false, List, [], ◌∷◌, ◌++◌, length, Option}
use Rattle.std.proofs.Common.{refl, sym, subst, ap, ◌∙◌, append_assoc, append-nil}
use Rattle.git_pkt.specs.Streams.{WrittenAs}
use Rattle.git_client.specs.Parts.{Terms}
use Rattle.git_client.specs.Machine.Client.{can_ask, phase_of, wants_input}
use Rattle.git_client.specs.Machine.Gathered.{dropped, gathered}
use Rattle.git_client.specs.Machine.RunSteps.{ReceivesBytes, no_counts}
use Rattle.git_client.specs.declared.client.Client.{Client}
use Rattle.git_client.specs.declared.receiving.Counts.{Counts}
use Rattle.git_client.proofs.Phases.{not_ready_where_expected}
use Rattle.git_client.proofs.ReceivedBytes.{received_then}
use Rattle.git2show_lib.specs.Machine.CheckedStreams.{ReceivesAll}
use Rattle.git2show_lib.specs.Machine.Checker.{IsAsked, IsReading, IsReceiving}
use Rattle.git2show_lib.specs.Machine.Checking.{Checking, counted}
use Rattle.git2show_lib.specs.declared.judged_requests.JudgedRequests.{JudgedRequests}
use Rattle.git2show_lib.specs.declared.sieve.Form.{Form}
use Rattle.git2show_lib.proofs.CheckRuns.{response_received}

-- the same lines behind others
pub written_behind : (lent before after bytes : List ℕ) → WrittenAs false (gathered before after) bytes
    → WrittenAs false (gathered (lent ++ before) (lent ++ after)) bytes
written_behind lent before after bytes is = ap (λ (l : List ℕ). lent ++ l) is ∙ sym (append_assoc lent before bytes)

module _ {A : Type 0} where
  -- bytes were received, and their lines gathered behind those that were lent
  pub received_behind : {old new : Client A} {counts now : Counts} {used before after : List ℕ} (lent : List ℕ)
      → ReceivesBytes false old new counts now used (gathered before after) dropped dropped
      → ReceivesBytes false old new counts now used (gathered (lent ++ before) (lent ++ after)) dropped dropped
  received_behind {before = before} {after} lent b = record {
    events = b.events;
    arrives = b.arrives;
    one_turn = b.one_turn;
    has_unsent = b.has_unsent;
    counted = b.counted;
    announced = λ can. written_behind lent before after _ (b.announced can);
    sent = b.sent;
    reported = b.reported;
  }

-- where nothing passes, a count stays
none_more : (count n before : ℕ) → count ≡ counted before → counted (count + (n - n)) ≡ count
none_more count n before is = grind arith

module _ {A : Type 0} {t : Terms} {limit : ℕ} where
  -- ---- a response is received as it comes

  -- after a request more bytes of the responses were used
  abbrev pub asked_further : {requests responses lines used : List ℕ} {client : Client A} {stream : JudgedRequests A} {passed : ℕ} (more : List ℕ)
      → IsAsked t limit requests responses lines used client stream passed
      → IsAsked t limit requests (responses ++ more) lines (used ++ more) client stream passed
  asked_further {used = used} more a = record {
    old = a.old;
    judged = a.judged;
    before = a.before;
    held = a.held;
    checking = a.checking;
    read = a.read;
    responses_are = ap (λ (l : List ℕ). l ++ more) a.responses_are ∙ append_assoc a.before used more;
    asks = a.asks;
    lines_are = a.lines_are;
    expected = a.expected;
  }

  module _ {requests responses lines : List ℕ} {client : Client A} {counts : Counts} {stream : JudgedRequests A} {passed : ℕ}
      (r : IsReceiving t limit requests responses lines client counts stream passed) where
    -- the bytes of the response so far, with these
    pub further : {new : Client A} {now : Counts} {more after : List ℕ} → ReceivesBytes false client new counts now more (gathered lines after) dropped dropped
        → ReceivesBytes false r.middle new no_counts now (r.used ++ more) (gathered r.before after) dropped dropped
    further b = received_then (not_ready_where_expected (phase_of client) r.waits) r.bytes b

    -- more of it was received
    pub receives_further : {new : Client A} {now : Counts} {more after : List ℕ}
        → ReceivesBytes false client new counts now more (gathered lines after) dropped dropped → wants_input new ≡ true
        → IsReceiving t limit requests (responses ++ more) after new now stream passed
    receives_further {more = more} b waits = record {
      middle = r.middle;
      used = r.used ++ more;
      before = r.before;
      asked = asked_further more r.asked;
      plain = r.plain;
      bytes = further b;
      waits = waits;
    }

    -- and it is whole
    pub receives_whole : {new : Client A} {now : Counts} {more after : List ℕ}
        → ReceivesBytes false client new counts now more (gathered lines after) dropped dropped → can_ask new ≡ true
        → IsReading t limit requests (responses ++ more) after new stream passed
    receives_whole {new} {more = more} {after} b ready =
        let a = asked_further more r.asked in
        let bytes = r.used ++ more in
        record {
          checking = subst (λ (n : ℕ). Checking t limit new stream n [] requests (responses ++ more) after)
              (none_more passed (length bytes) _ a.checking.counts)
              (response_received a (further b) ready (subst (λ (form : Option Form). ReceivesAll form bytes bytes) (sym r.plain) refl));
          ready = a.read.onward;
        }

-- ---- the lines that wait

nothing_behind : (gathered others : List ℕ) → gathered ++ others ≡ [] → others ≡ []
nothing_behind [] others none = none
nothing_behind (byte ∷ gathered) others none = absurd (cc)

pub nothing_gathered : (gathered others : List ℕ) → gathered ++ others ≡ [] → gathered ≡ []
nothing_gathered [] others none = refl
nothing_gathered (byte ∷ gathered) others none = absurd (cc)

-- there is space for a further line where none waits
pub none_fit : (gathered others : List ℕ) → gathered ++ others ≡ [] → length gathered ≤ 65536
none_fit gathered others none = omega (arith, ap length (nothing_gathered gathered others none))

module _ {A : Type 0} {old new : Client A} {counts now : Counts} {used : List ℕ} where
  -- no line waited, and these lines were gathered
  pub gathered_on : (lent before after others : List ℕ) → before ++ others ≡ []
      → ReceivesBytes false old new counts now used (gathered before after) dropped dropped
      → ReceivesBytes false old new counts now used (gathered (lent ++ (before ++ others)) (lent ++ (after ++ others))) dropped dropped
  gathered_on lent before after others none b =
      let behind = nothing_behind before others none in
      subst (λ (l : List ℕ). ReceivesBytes false old new counts now used (gathered (lent ++ (before ++ l)) (lent ++ (after ++ l))) dropped dropped) (sym behind)
      (subst (λ (l : List ℕ). ReceivesBytes false old new counts now used (gathered (lent ++ l) (lent ++ (after ++ []))) dropped dropped)
      (sym (append-nil before))
      (subst (λ (l : List ℕ). ReceivesBytes false old new counts now used (gathered (lent ++ before) (lent ++ l)) dropped dropped) (sym (append-nil after))
      (received_behind lent b)))
