-- The events of an array, one call of `feed` after another.
use Rattle.std.proofs.Common.{arith, ◌≡◌, ◌∙◌, ℕ, ◌+◌, ◌<◌, ◌≤◌, false, true, List, [], ◌∷◌, ◌++◌, length, take, drop}
use borrow.Rule.Slice.PartMut.{put_mid}
use Rattle.std.proofs.Common.{◌-◌, ◌⊎◌, inl, inr, zero, suc, Bor, sym, ap, refl, subst, length-append, append_assoc, append-nil, take-add, drop-drop}
use Rattle.std.proofs.Math.ListN.{drop_of_length-le}
use Rattle.std.proofs.lemmas.List.{take_rest, length-drop, length-take}
use Rattle.std.specs.Global.{Global}
use Rattle.git_pkt.specs.Packets.{longest_payload}
use Rattle.git_client.specs.EventParts.{parts_of}
use Rattle.git_client.specs.Events.{all_parts_length}
use Rattle.git_client.specs.Machine.Client.{can_ask}
use Rattle.git_client.specs.Machine.Turns.{values_of}
use Rattle.git_client.specs.declared.client.Client.{Client}
use Rattle.git_client.specs.declared.events.Event.{Event}
use Rattle.git_client.specs.declared.events.ReceivedGot.TheVariants as Got
use Rattle.gitwire.specs.ClientAnswers.{LieInChunk}
use Rattle.gitwire.specs.EventLists.{EndsHere, FeedsEach, GivesEvent, GivesNext, ListsEvents, Pauses}
use Rattle.gitwire.specs.Answers.{answering_packet}
use Rattle.gitwire.specs.EventAnswers.{bytes_shown, copied_of, passed_of, shown_at, announcing_parts}
use Rattle.gitwire.specs.Buffers.{put_before}
use Rattle.gitwire.specs.declared.answer.GitwireAnswer.{GitwireAnswer}
use Rattle.gitwire.specs.declared.answer.What.TheVariants as What
use Rattle.gitwire.specs.declared.event.GitwireEvent.{GitwireEvent}
use Rattle.gitwire.specs.declared.event_list.Extent.{Extent}
use Rattle.gitwire.proofs.FilledArrays.{filled_place}
use Rattle.gitwire.proofs.FilledBuffers.{filled_more}
use Rattle.gitwire.proofs.ShownLengths.{shown_fits}

-- all other events are listed with their texts in the buffer
pub copied_others : (event : Event) → ((bytes : Bor (List ℕ)) → event ≡ Event.Pack bytes → ⊥) → ((bytes : Bor (List ℕ)) → event ≡ Event.Progress bytes → ⊥)
    → copied_of event ≡ bytes_shown (parts_of event)
copied_others (Event.Pack bytes) no_pack no_progress = absurd (no_pack bytes refl)
copied_others (Event.Progress bytes) no_pack no_progress = absurd (no_progress bytes refl)
copied_others event no_pack no_progress = refl

pub listed_others : (event : Event) (end texts : ℕ) → ((bytes : Bor (List ℕ)) → event ≡ Event.Pack bytes → ⊥)
    → ((bytes : Bor (List ℕ)) → event ≡ Event.Progress bytes → ⊥)
    → shown_at event end texts ≡ record (announcing_parts end (parts_of event)) { offset = texts }
listed_others (Event.Pack bytes) end texts no_pack no_progress = absurd (no_pack bytes refl)
listed_others (Event.Progress bytes) end texts no_pack no_progress = absurd (no_progress bytes refl)
listed_others event end texts no_pack no_progress = refl

-- the bytes that are copied have at most as many bytes as a payload
pub copied_fits : (event : Event) → length (copied_of event) ≤ all_parts_length (values_of event)
copied_fits (Event.Pack bytes) = omega arith
copied_fits (Event.Progress bytes) = omega arith
copied_fits event = shown_fits event

-- bytes that stay in the chunk are among those used
in_used : (used : ℕ) (chunk bytes front : List ℕ) → take used chunk ≡ front ++ bytes → length bytes ≤ used
in_used used chunk bytes front is = omega (arith, ap length is, length-append front bytes, length-take used chunk)

pub passed_fits : (event : Event) (used : ℕ) (chunk : List ℕ) → LieInChunk (Got.Event event) used chunk → length (passed_of event) ≤ used
passed_fits (Event.Pack bytes) used chunk lies = in_used used chunk bytes.now lies.0 lies.1
passed_fits (Event.Progress bytes) used chunk lies = in_used used chunk bytes.now lies.0 lies.1
passed_fits event used chunk lies = omega arith

lie_after : (from used : ℕ) (chunk bytes front : List ℕ) → take used (drop from chunk) ≡ front ++ bytes
    → (whole : List ℕ) × (take (from + used) chunk ≡ whole ++ bytes)
lie_after from used chunk bytes front is =
    (take from chunk ++ front, take-add from used chunk ∙ ap (λ (l : List ℕ). take from chunk ++ l) is ∙ sym (append_assoc (take from chunk) front bytes))

pub lies_after : (event : Event) (from used : ℕ) (chunk : List ℕ) → LieInChunk (Got.Event event) used (drop from chunk)
    → LieInChunk (Got.Event event) (from + used) chunk
lies_after (Event.Pack bytes) from used chunk lies = lie_after from used chunk bytes.now lies.0 lies.1
lies_after (Event.Progress bytes) from used chunk lies = lie_after from used chunk bytes.now lies.0 lies.1
lies_after event from used chunk lies = tt

-- what a part up to the end has
pub rest_length : (whole : List ℕ) (at : ℕ) → length (take (length whole - at) (drop at whole)) ≡ length whole - at
rest_length whole at = ap length (take_rest whole at) ∙ length-drop at whole

-- the bytes used up to the end of the call are bytes of the chunk
pub ends_within : (chunk : List ℕ) (from used end : ℕ) → used ≤ length (take (length chunk - from) (drop from chunk)) → from ≤ length chunk
    → end ≡ from + used → end ≤ length chunk
ends_within chunk from used end some within is = omega (arith, some, rest_length chunk from, within, is)

-- the texts of an event with its parts fit into the buffer
pub texts_within : (texts size length_copied most now : ℕ) → now ≡ texts + length_copied → length_copied ≤ most → most ≤ longest_payload
    → texts + longest_payload ≤ size → now ≤ size
texts_within texts size length_copied most now is copied fits suffices = omega (arith, is, copied, fits, suffices)

-- the bytes are written to the rest of a buffer
pub placed_after : (buffer rest bytes : List ℕ) (at : ℕ) → at + length bytes ≤ length buffer
    → rest ≡ put_before bytes (take (length buffer - at) (drop at buffer))
    → put_mid at (length buffer - at) buffer rest ≡ take at buffer ++ bytes ++ drop (at + length bytes) buffer
placed_after buffer rest bytes at fits is =
    let left : drop (length buffer - at) (drop at buffer) ≡ [] = drop_of_length-le (drop at buffer) (omega (arith, length-drop at buffer)) in
    let more : drop (length bytes) (take (length buffer - at) (drop at buffer)) ≡ drop (at + length bytes) buffer =
    ap (drop (length bytes)) (take_rest buffer at) ∙ drop-drop (length bytes) at buffer in
    rw (is, left, more) (
    ap (λ (l : List ℕ). take at buffer ++ l) (append-nil (bytes ++ drop (at + length bytes) buffer))
    ∙ sym (append_assoc (take at buffer) bytes (drop (at + length bytes) buffer))
    )

-- one call more
feeds_more : (es : List GitwireEvent) (old mid new : Client Global) (chunk : List ℕ) (from end : ℕ) (texts written : List ℕ)
    → FeedsEach old chunk from texts es mid end written
    → (event : Event) (used : ℕ) (e : GitwireEvent) → GivesNext mid chunk end written e event used new
    → FeedsEach old chunk from texts (es ++ e ∷ []) new (end + used) (written ++ copied_of event)
feeds_more [] old mid new chunk from end texts written (same, at, is) event used e gives =
    let from_old : GivesNext old chunk end written e event used new =
    subst (λ (client : Client Global). GivesNext client chunk end written e event used new) same gives in
    let from_there : GivesNext old chunk from written e event used new =
    subst (λ (n : ℕ). GivesNext old chunk n written e event used new) at from_old in
    let first : GivesNext old chunk from texts e event used new =
    subst (λ (l : List ℕ). GivesNext old chunk from l e event used new) is from_there in
    (event, used, new, first, (refl, ap (λ (n : ℕ). n + used) at, ap (λ (l : List ℕ). l ++ copied_of event) is))
feeds_more (e0 ∷ es) old mid new chunk from end texts written (first, used_first, next, gives_first, more) event used e gives = (
  first,
  used_first,
  next,
  gives_first,
  feeds_more es next mid new chunk (from + used_first) end (texts ++ copied_of first) written more event used e gives,
)

-- what has been listed so far, of this chunk, array and buffer
pub record ListedSoFar (old : Client Global) (chunk : List ℕ) (events : List GitwireEvent) (buffer : List ℕ) (now : Client Global) (used count texts : ℕ)
    (filled : List GitwireEvent) (written : List ℕ) : Type 0 where
  pub listed : List GitwireEvent
  pub bytes : List ℕ
  pub feeds : FeedsEach old chunk 0 [] listed now used bytes
  pub counts : count ≡ length listed
  pub long : texts ≡ length bytes
  pub events_are : filled ≡ listed ++ drop (length listed) events
  pub buffer_is : written ≡ put_before bytes buffer

pub nothing_listed : (old : Client Global) (chunk : List ℕ) (events : List GitwireEvent) (buffer : List ℕ)
    → ListedSoFar old chunk events buffer old 0 0 0 events buffer
nothing_listed old chunk events buffer = record {
  listed = [];
  bytes = [];
  feeds = (refl, refl, refl);
  counts = refl;
  long = refl;
  events_are = refl;
  buffer_is = refl;
}

-- nothing has changed since
pub listed_still : (old now later : Client Global) (chunk : List ℕ) (events : List GitwireEvent) (buffer : List ℕ) (used count texts : ℕ)
    (filled kept : List GitwireEvent) (written same : List ℕ) → ListedSoFar old chunk events buffer now used count texts filled written
    → later ≡ now → kept ≡ filled → same ≡ written → ListedSoFar old chunk events buffer later used count texts kept same
listed_still old now later chunk events buffer used count texts filled kept written same h client_is filled_is written_is = record {
  listed = h.listed;
  bytes = h.bytes;
  feeds = subst (λ (client : Client Global). FeedsEach old chunk 0 [] h.listed client used h.bytes) (sym client_is) h.feeds;
  counts = h.counts;
  long = h.long;
  events_are = filled_is ∙ h.events_are;
  buffer_is = written_is ∙ h.buffer_is;
}

pub listed_more : (old mid new : Client Global) (chunk : List ℕ) (events : List GitwireEvent) (buffer : List ℕ) (used count texts : ℕ)
    (filled next : List GitwireEvent) (written : List ℕ) (then : List ℕ) (further : Extent)
    → ListedSoFar old chunk events buffer mid used count texts filled written → count < length events
    → GivesEvent mid chunk used count texts filled written further next then new
    → ListedSoFar old chunk events buffer new further.used further.count further.texts next then
listed_more old mid new chunk events buffer used count texts filled next written then further h within gives =
    let one = shown_at gives.event (used + gives.used) texts in
    let e_is : one ≡ shown_at gives.event (used + gives.used) (length h.bytes) = ap (shown_at gives.event (used + gives.used)) h.long in
    let more : FeedsEach old chunk 0 [] (h.listed ++ one ∷ []) new (used + gives.used) (h.bytes ++ copied_of gives.event) =
    feeds_more h.listed old mid new chunk 0 used [] h.bytes h.feeds gives.event gives.used one
    (record { feeds = gives.feeds; lies = gives.lies; listed_is = e_is }) in
    let used_is = ap (λ (e : Extent). e.used) gives.further_is in
    record {
      listed = h.listed ++ one ∷ [];
      bytes = h.bytes ++ copied_of gives.event;
      feeds = subst (λ (n : ℕ). FeedsEach old chunk 0 [] (h.listed ++ one ∷ []) new n (h.bytes ++ copied_of gives.event)) (sym used_is) more;
      counts = omega (arith, ap (λ (e : Extent). e.count) gives.further_is, h.counts, length-append h.listed (one ∷ []));
      long = omega (arith, ap (λ (e : Extent). e.texts) gives.further_is, h.long, length-append h.bytes (copied_of gives.event));
      events_are = filled_place events h.listed filled next count one h.counts within h.events_are gives.events_are;
      buffer_is = filled_more buffer h.bytes (copied_of gives.event) written then texts h.long h.buffer_is gives.buffer_is;
    }

-- no more calls are made, since a request can be asked
pub paused_turn : (last : Client Global) (used count most texts size : ℕ) (answer : GitwireAnswer) → 0 < count → can_ask last ≡ true
    → answer ≡ answering_packet used 0 count What.CanAsk → Pauses last used count most texts size answer last
paused_turn last used count most texts size answer some ready is = record {
  some = some;
  turn = λ _. is;
  full = λ not. absurd cc;
  why = λ not. absurd cc;
  stays = refl;
}

-- no more calls are made, since there is no place for a further event
pub paused_full : (last : Client Global) (used count most texts size : ℕ) (answer : GitwireAnswer) → 0 < count → can_ask last ≡ false
    → (count ≡ most) ⊎ (size < texts + longest_payload) → answer ≡ answering_packet used 0 count What.More
    → Pauses last used count most texts size answer last
paused_full last used count most texts size answer some ready why is = record {
  some = some;
  turn = λ can. absurd cc;
  full = λ _. is;
  why = λ _. why;
  stays = refl;
}

-- the calls stop after an event
pub stopped : (old last : Client Global) (chunk : List ℕ) (events : List GitwireEvent) (buffer : List ℕ) (used count texts : ℕ) (answer : GitwireAnswer)
    (filled : List GitwireEvent) (written : List ℕ) → ListedSoFar old chunk events buffer last used count texts filled written
    → used ≤ length chunk → count ≤ length events → texts ≤ length buffer → answer.used ≡ used
    → Pauses last used count (length events) texts (length buffer) answer last → ListsEvents old chunk events buffer answer filled written last
stopped old last chunk events buffer used count texts answer filled written h within places fits is pauses = record {
  listed = h.listed;
  texts = h.bytes;
  end = used;
  last = last;
  feeds = h.feeds;
  ends = inl (rw (h.counts, h.long) at pauses);
  within = omega (arith, is, within);
  count_fits = omega (arith, h.counts, places);
  texts_fit = omega (arith, h.long, fits);
  events_are = h.events_are;
  buffer_is = h.buffer_is;
}

-- one more call gives no event
pub stopped_none : (old last new : Client Global) (chunk : List ℕ) (events : List GitwireEvent) (buffer : List ℕ) (used count texts : ℕ)
    (answer : GitwireAnswer) (filled next : List GitwireEvent) (written then : List ℕ)
    → ListedSoFar old chunk events buffer last used count texts filled written
    → count ≤ length events → texts ≤ length buffer → EndsHere last chunk used count filled written answer next then new
    → ListsEvents old chunk events buffer answer next then new
stopped_none old last new chunk events buffer used count texts answer filled next written then h places fits here = record {
  listed = h.listed;
  texts = h.bytes;
  end = used;
  last = last;
  feeds = h.feeds;
  ends = inr (rw h.counts at here.0);
  within = here.1;
  count_fits = omega (arith, h.counts, places);
  texts_fit = omega (arith, h.long, fits);
  events_are = here.2 ∙ h.events_are;
  buffer_is = here.3 ∙ h.buffer_is;
}

-- there are events, where the texts have some bytes
pub some_listed : (count texts : ℕ) → (count ≡ 0 → texts ≡ 0) → (texts ≡ 0 → ⊥) → 0 < count
some_listed zero texts begins some = absurd (some (begins refl))
some_listed (suc count) texts begins some = omega arith

-- an event ends in the chunk
pub end_within : (old : Client Global) (chunk : List ℕ) (from count texts : ℕ) (events : List GitwireEvent) (buffer : List ℕ) (further : Extent)
    (filled : List GitwireEvent) (written : List ℕ) (new : Client Global)
    → GivesEvent old chunk from count texts events buffer further filled written new → further.used ≤ length chunk
end_within old chunk from count texts events buffer further filled written new gives =
    omega (arith, ap (λ (e : Extent). e.used) gives.further_is, gives.within)
