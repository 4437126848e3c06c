-- What is left of requests of another client in each stage of a reader.
use Rattle.std.proofs.Common.{◌≡◌, ◌≢◌, ◌⊎◌, ℕ, Bool, true, false, List, [], ◌∷◌, ◌++◌, Some, None}
use Rattle.std.proofs.Common.{refl, sym, ap, ◌∙◌, subst, append-nil, append_assoc, inl, inr, codes, if◌then◌else◌}
use Rattle.git_pkt.specs.Packets.{Pkt, flush, delim, resp_end, payload, text_of as line_of}
use Rattle.git_pkt.specs.Splits.{Given}
use Rattle.git_pkt.specs.declared.fault.Fault.{Fault}
use Rattle.git_msg.specs.Machine.RequestStreams.{IsLeftIn}
use Rattle.git_msg.specs.Requests.{AreBegun}
use Rattle.git_msg.specs.declared.streams.Stage.TheVariants as OfRequests
use Rattle.git_msg.proofs.StreamSteps.{left_begins}
use Rattle.git2show_lib.specs.Others.{Advertised, AreCutOff, AreNoPacket, NoneNames, first_place}
use Rattle.git2show_lib.specs.Others.{is_other_capability, judged_line, judged_of}
use Rattle.git2show_lib.specs.Others.{judged_packet, names_other, place_after}
use Rattle.git2show_lib.specs.Machine.JudgedRequests.{AreQuestions, IsBegun, IsLeft, IsQuestion, IsRefused}
use Rattle.git2show_lib.specs.Machine.JudgedRequests.{place_for, stage_is_between, taken_in}
use Rattle.git2show_lib.specs.Machine.JudgedRequests.{takes_bytes}
use Rattle.git2show_lib.specs.declared.judged_requests.Stage.{Stage}
use Rattle.git2show_lib.specs.declared.judged_requests.Stage.TheVariants.{Between, Within, Passing, Stopped, Failed as FailedStage}
use Rattle.git2show_lib.specs.OtherLines.{Question, noted_of}
use Rattle.git2show_lib.specs.Others.{counted_of}
use Rattle.git2show_lib.specs.Machine.JudgedRequests.{counted_for, noted_for}
use Rattle.git2show_lib.proofs.NamedCommands.{names_snoc}

-- ---- whole requests

module _ (by : Advertised) (limit : ℕ) where
  -- further packets after what is left
  pub questions_more : (packets more : List Given) (asked : List Question) (left : List Given) → AreQuestions by limit packets asked left
      → AreQuestions by limit (packets ++ more) asked (left ++ more)
  questions_more packets more [] left same = ap (λ (l : List Given). l ++ more) same
  questions_more packets more (q ∷ qs) left (front, back, whole, first, rest) =
      (front, back ++ more, ap (λ (l : List Given). l ++ more) whole ∙ append_assoc front back more, first, questions_more back more qs left rest)

  -- what is left is one more request
  pub one_more_question : (packets : List Given) (asked : List Question) (left : List Given) (q : Question) → AreQuestions by limit packets asked left
      → IsQuestion by limit left q → AreQuestions by limit packets (asked ++ q ∷ []) []
  one_more_question packets [] left q same is = (left, [], same ∙ sym (append-nil left), is, refl)
  one_more_question packets (p ∷ ps) left q (front, back, whole, first, rest) is =
      (front, back, whole, first, one_more_question back ps left q rest is)

-- ---- what is left in a stage

-- the first packet of a request is read as one
pub first_known : (text : List ℕ) (p : Pkt) → judged_packet text first_place p ≡ None → ⊥
unfolding judged_line
first_known text flush e = cc
first_known text delim e = cc
first_known text resp_end e = cc
first_known text (payload bytes) e = at (is_other_capability text (line_of bytes)) e where
  at : (b : Bool) → (if b then Some (payload (codes "agent")) else Some (payload bytes)) ≡ None → ⊥
  at true e = cc
  at false e = cc

module _ (by : Advertised) (limit : ℕ) (left : List Given) where
  -- bytes that end no packet have no part in it
  pub left_on : (rest later : List ℕ) (end further : ℕ) (stage : Stage) → takes_bytes stage ≡ true → IsLeft stage by limit left rest end
      → IsLeft stage by limit left later further
  left_on rest later end further Between on h = h
  left_on rest later end further Within on h = h
  left_on rest later end further Passing on h = h
  left_on rest later end further Stopped on h = absurd (cc)
  left_on rest later end further (FailedStage fault) on h = absurd (cc)

  -- where a reader reads on, that is lines that begin a request, or a request that passes
  pub left_begun : (rest : List ℕ) (end : ℕ) (stage : Stage) → takes_bytes stage ≡ true → IsLeft stage by limit left rest end
      → IsBegun by limit left
  left_begun rest end Between on h =
      inl (left_begins by.offer limit (judged_of by.text left) rest end OfRequests.Between refl (ap (judged_of by.text) h))
  left_begun rest end Within on h = inl (left_begins by.offer limit (judged_of by.text left) rest end OfRequests.Within refl h.1)
  left_begun rest end Passing on h = inr h
  left_begun rest end Stopped on h = absurd (cc)
  left_begun rest end (FailedStage fault) on h = absurd (cc)

  -- outside of requests that pass none of it names a command that passes
  pub left_unnamed : (rest : List ℕ) (end : ℕ) (stage : Stage) → takes_bytes stage ≡ true → (stage ≡ Passing → ⊥) → IsLeft stage by limit left rest end
      → NoneNames by.text first_place left
  left_unnamed rest end Between on other h = subst (λ (gs : List Given). NoneNames by.text first_place gs) (sym h) tt
  left_unnamed rest end Within on other h = h.0
  left_unnamed rest end Passing on other h = absurd (other refl)
  left_unnamed rest end Stopped on other h = absurd (cc)
  left_unnamed rest end (FailedStage fault) on other h = absurd (cc)

  -- the bytes after it are refused
  pub begun_refused : (rest : List ℕ) (end : ℕ) (fault : Fault) → NoneNames by.text first_place left → AreBegun by.offer limit (judged_of by.text left)
      → AreNoPacket rest end fault → IsRefused by limit left rest end fault
  begun_refused rest end fault unnamed begun no_packet =
      inl (unnamed, inr (inl (record { begun = begun; stops = no_packet.stops; not_the_end = no_packet.not_the_end })))

  pub left_refused : (rest before : List ℕ) (end earlier : ℕ) (fault : Fault) (stage : Stage) → takes_bytes stage ≡ true
      → IsLeft stage by limit left before earlier
      → AreNoPacket rest end fault → IsRefused by limit left rest end fault
  left_refused rest before end earlier fault Between on h no_packet =
      begun_refused rest end fault (left_unnamed before earlier Between on (λ e. cc) h)
      (left_begins by.offer limit (judged_of by.text left) before earlier OfRequests.Between refl (ap (judged_of by.text) h)) no_packet
  left_refused rest before end earlier fault Within on h no_packet =
      begun_refused rest end fault h.0 (left_begins by.offer limit (judged_of by.text left) before earlier OfRequests.Within refl h.1) no_packet
  left_refused rest before end earlier fault Passing on h no_packet = inr (inl (h, inl no_packet))
  left_refused rest before end earlier fault Stopped on h no_packet = absurd (cc)
  left_refused rest before end earlier fault (FailedStage other) on h no_packet = absurd (cc)

  -- or the input ends after them, inside a request or a packet
  pub left_cut : (rest before : List ℕ) (end earlier : ℕ) (fault : Fault) (stage : Stage) → takes_bytes stage ≡ true → IsLeft stage by limit left before earlier
      → AreCutOff rest end fault → (stage_is_between stage ≡ false) ⊎ (rest ≢ []) → IsRefused by limit left rest end fault
  left_cut rest before end earlier fault Between on h cut (inl e) = absurd (cc)
  left_cut rest before end earlier fault Between on h cut (inr some) = inl (
    left_unnamed before earlier Between on (λ e. cc) h,
    inr (inr (record {
      begun = left_begins by.offer limit (judged_of by.text left) before earlier OfRequests.Between refl (ap (judged_of by.text) h);
      still_open = cut.still_open;
      inside = inr some;
      kind = cut.kind;
      at = cut.at;
    })),
  )
  left_cut rest before end earlier fault Within on h cut inside = inl (
    h.0,
    inr (inr (record {
      begun = left_begins by.offer limit (judged_of by.text left) before earlier OfRequests.Within refl h.1;
      still_open = cut.still_open;
      inside = inl h.1.0;
      kind = cut.kind;
      at = cut.at;
    })),
  )
  left_cut rest before end earlier fault Passing on h cut inside = inr (inl (h, inr cut))
  left_cut rest before end earlier fault Stopped on h cut inside = absurd (cc)
  left_cut rest before end earlier fault (FailedStage other) on h cut inside = absurd (cc)

  module _ (g : Given) where
    -- a packet after it is passed over
    pub left_passed : (rest later : List ℕ) (end further : ℕ) (stage : Stage) → takes_bytes stage ≡ true → (stage ≡ Passing → ⊥)
        → IsLeft stage by limit left rest end → names_other by.text (place_after first_place left) g.packet ≡ false
        → judged_packet by.text (place_after first_place left) g.packet ≡ None
        → judged_of by.text (left ++ g ∷ []) ≡ judged_of by.text left → IsLeft stage by limit (left ++ g ∷ []) later further
    left_passed rest later end further Between on other h unnamed none same =
        absurd (first_known by.text g.packet (ap (λ (gs : List Given). judged_packet by.text (place_after first_place gs) g.packet) (sym h) ∙ none))
    left_passed rest later end further Within on other h unnamed none same = (
      names_snoc by.text first_place left g h.0 unnamed,
      subst (λ (gs : List Given). IsLeftIn OfRequests.Within by.offer limit gs later further) (sym same) h.1,
    )
    left_passed rest later end further Passing on other h unnamed none same = absurd (other refl)
    left_passed rest later end further Stopped on other h unnamed none same = absurd (cc)
    left_passed rest later end further (FailedStage fault) on other h unnamed none same = absurd (cc)

-- outside of requests that pass what is left is lines that begin a request
pub left_lines : (by : Advertised) (limit : ℕ) (left : List Given) (rest : List ℕ) (end : ℕ) (stage : Stage) → takes_bytes stage ≡ true
    → (stage ≡ Passing → ⊥) → IsLeft stage by limit left rest end → AreBegun by.offer limit (judged_of by.text left)
left_lines by limit left rest end Between on other h =
    left_begins by.offer limit (judged_of by.text left) rest end OfRequests.Between refl (ap (judged_of by.text) h)
left_lines by limit left rest end Within on other h = left_begins by.offer limit (judged_of by.text left) rest end OfRequests.Within refl h.1
left_lines by limit left rest end Passing on other h = absurd (other refl)
left_lines by limit left rest end Stopped on other h = absurd (cc)
left_lines by limit left rest end (FailedStage fault) on other h = absurd (cc)

-- what a reader has of what is left, outside of requests that pass
pub record IsAllTaken (stage : Stage) (text : List ℕ) (left : List Given) : Type 0 where
  pub place : place_for stage left ≡ place_after first_place left
  pub taken : taken_in stage text left ≡ judged_of text left
  pub counted : counted_for stage text left ≡ counted_of text left
  pub noted : noted_for stage text left ≡ noted_of text left

pub all_taken : (stage : Stage) (text : List ℕ) (left : List Given) → (stage ≡ Passing → ⊥) → IsAllTaken stage text left
all_taken Between text left other = record { place = refl; taken = refl; counted = refl; noted = refl }
all_taken Within text left other = record { place = refl; taken = refl; counted = refl; noted = refl }
all_taken Passing text left other = absurd (other refl)
all_taken Stopped text left other = record { place = refl; taken = refl; counted = refl; noted = refl }
all_taken (FailedStage fault) text left other = record { place = refl; taken = refl; counted = refl; noted = refl }
