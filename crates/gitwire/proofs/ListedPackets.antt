-- The packets of an array, one call of `feed` after another.
use Rattle.std.proofs.Common.{arith, ◌≡◌, ◌∙◌, ℕ, ◌+◌, ◌-◌, ◌<◌, ◌≤◌, false, List, [], ◌∷◌, ◌++◌, length, take, drop, set}
use Rattle.std.proofs.Common.{sym, ap, refl, subst, length-append, inl, inr, append_assoc, append-nil, Bor}
use Rattle.std.proofs.Math.Seq.{drop-append-add, take-add, take-append_seam}
use Rattle.std.proofs.lemmas.Bool.Decides.{leb_tells}
use Rattle.std.proofs.lemmas.List.{length-drop, length-take-le, take-append-drop}
use Rattle.git_pkt.specs.Packets.{Spells, body_of, longest_payload, seen}
use Rattle.git_pkt.specs.Machine.PacketReader.{Feeds, Holds, held_of, open_length, passes_of, rest_of}
use Rattle.git_pkt.specs.Machine.ReaderState.{passed_length_in, passes_in}
use Rattle.git_pkt.specs.declared.packet.Packet.{Packet}
use Rattle.git_pkt.specs.declared.packet.Packet.TheVariants.{Flush, Delim, RespEnd, Payload}
use Rattle.git_pkt.specs.declared.reader.Got.TheVariants as Got
use Rattle.git_pkt.specs.declared.reader.PacketReader.{PacketReader}
use Rattle.git_pkt.specs.declared.reader.State.{State}
use Rattle.git_pkt.specs.declared.reader.State.TheVariants.{Between, Gathering, Passing, Failed}
use Rattle.gitwire.specs.Answers.{answering_packet}
use Rattle.gitwire.specs.PacketAnswers.{answer_of}
use Rattle.gitwire.specs.PacketLists.{EndsHere, FeedsEach, GivesNext, GivesPacket, IsFull, IsWritten, ListsPackets, PayloadLies}
use Rattle.gitwire.specs.Buffers.{put_before}
use Rattle.gitwire.specs.declared.answer.GitwireAnswer.{GitwireAnswer}
use Rattle.gitwire.specs.declared.answer.What.TheVariants as What
use Rattle.gitwire.proofs.FilledArrays.{filled_place}

-- what follows the first bytes of two parts, if it is no longer than the second one, is the end of that
ends_second : (n : ℕ) (first second end : List ℕ) → drop n (first ++ second) ≡ end → length end ≤ length second → n ≤ length (first ++ second)
    → (front : List ℕ) × (second ≡ front ++ end)
ends_second n first second end is short within =
    elim (leb_tells (length first) n) [
      | inl fits ↦
          let at : length first + (n - length first) ≡ n = omega (arith, fits.1) in
          let dropped : drop (n - length first) second ≡ end =
          sym (drop-append-add first second (n - length first)) ∙ ap (λ (k : ℕ). drop k (first ++ second)) at ∙ is in (
            take (n - length first) second,
            sym (take-append-drop (n - length first) second) ∙ ap (λ (l : List ℕ). take (n - length first) second ++ l) dropped,
          )
      | inr longer ↦
          absurd
          (omega (arith, longer.1, short, within, ap length is, length-drop n (first ++ second), length-append first second))
    ]

-- all that has come of an open packet is in the hold of a reader that gathers
nothing_passed : (state : State) (field : ℕ) → passes_in state ≡ false → 0 ≡ passed_length_in state field
nothing_passed Between field gathers = refl
nothing_passed (Gathering count) field gathers = refl
nothing_passed (Passing left) field gathers = absurd cc
nothing_passed (Failed fault) field gathers = refl

holds_rest : (reader : PacketReader) → passes_of reader ≡ false → Holds reader (rest_of reader)
holds_rest reader gathers = record {
  passed = [];
  all = append-nil (rest_of reader);
  long = nothing_passed reader.state reader.field gathers;
}

-- a payload that is no longer than the bytes used is the last of them
last_used : (old new : PacketReader) (chunk : List ℕ) (used offset : ℕ) (bytes : Bor (List ℕ)) → passes_of old ≡ false
    → Feeds old chunk (record { used = used; got = Got.Packet (Payload bytes) offset }) new → used ≤ length chunk → length bytes.now ≤ used
    → (front : List ℕ) × (take used chunk ≡ front ++ bytes.now)
last_used old new chunk used offset bytes gathers feeds within short =
    let held : held_of new ≡ rest_of old ++ take used chunk = feeds.held (rest_of old) (holds_rest old gathers) in
    let spells : Spells (seen (Payload bytes)) (held_of new) = feeds.announces.3 in
    let long : length (take used chunk) ≡ used = length-take-le used chunk within in
    ends_second 4 (rest_of old) (take used chunk) bytes.now
    (ap (λ (l : List ℕ). drop 4 l) (sym held) ∙ spells.body)
    (omega (arith, long, short))
    (omega (arith, spells.digits.four, ap length held))

-- what the array and the buffer have so far, of this chunk, array and buffer
pub record ListedSoFar (old : PacketReader) (chunk : List ℕ) (packets : List GitwireAnswer) (buffer : List ℕ) (now : PacketReader) (used count : ℕ)
    (filled : List GitwireAnswer) (written : List ℕ) : Type 0 where
  pub listed : List GitwireAnswer
  pub cut : List ℕ
  pub feeds : FeedsEach old chunk written 0 listed now used
  pub counts : count ≡ length listed
  pub cut_fits : length cut ≤ length buffer
  pub packets_are : filled ≡ listed ++ drop (length listed) packets
  pub buffer_is : written ≡ put_before cut buffer
  pub fresh : count ≡ 0 → (listed ≡ []) × (used ≡ 0) × (written ≡ buffer) × (now ≡ old)
  pub closed : 0 < count → open_length now ≡ 0

pub nothing_listed : (old : PacketReader) (chunk : List ℕ) (packets : List GitwireAnswer) (buffer : List ℕ)
    → ListedSoFar old chunk packets buffer old 0 0 packets buffer
nothing_listed old chunk packets buffer = record {
  listed = [];
  cut = [];
  feeds = (refl, refl);
  counts = refl;
  cut_fits = omega arith;
  packets_are = refl;
  buffer_is = refl;
  fresh = λ none. (refl, refl, refl, refl);
  closed = λ some. absurd (omega (arith, some));
}

-- one call more
pub feeds_more : (ps : List GitwireAnswer) (old mid new : PacketReader) (chunk buffer : List ℕ) (from end : ℕ) → FeedsEach old chunk buffer from ps mid end
    → (packet : Packet) (offset used : ℕ) (p : GitwireAnswer) → GivesNext mid chunk buffer end p packet offset used new
    → FeedsEach old chunk buffer from (ps ++ p ∷ []) new (end + used)
feeds_more [] old mid new chunk buffer from end (same, at) packet offset used p gives =
    let from_old : GivesNext old chunk buffer end p packet offset used new =
    subst (λ (reader : PacketReader). GivesNext reader chunk buffer end p packet offset used new) same gives in
    let first : GivesNext old chunk buffer from p packet offset used new =
    subst (λ (n : ℕ). GivesNext old chunk buffer n p packet offset used new) at from_old in
    (packet, offset, used, new, first, (refl, ap (λ (n : ℕ). n + used) at))
feeds_more (p0 ∷ ps) old mid new chunk buffer from end (first, offset_first, used_first, next, gives_first, more) packet offset used p gives = (
  first,
  offset_first,
  used_first,
  next,
  gives_first,
  feeds_more ps next mid new chunk buffer (from + used_first) end more packet offset used p gives,
)

-- a payload lies in the chunk, up to the end of its packet, where the call that gave it used as many bytes
in_chunk : (chunk : List ℕ) (end used : ℕ) (bytes : List ℕ) (front : List ℕ) → take used (drop end chunk) ≡ front ++ bytes
    → (whole : List ℕ) × (take (end + used) chunk ≡ whole ++ bytes)
in_chunk chunk end used bytes front is =
    (take end chunk ++ front, take-add end used chunk ∙ ap (λ (l : List ℕ). take end chunk ++ l) is ∙ sym (append_assoc (take end chunk) front bytes))

front_of_buffer : (bytes buffer : List ℕ) → take (length bytes) (put_before bytes buffer) ≡ bytes
front_of_buffer bytes buffer = take-append_seam bytes (drop (length bytes) buffer)

-- a packet that began in the chunk leaves the buffer as it is
stays : (packet : Packet) (used : ℕ) (buffer written : List ℕ) → IsWritten packet used buffer written → length (body_of (seen packet)) ≤ used → written ≡ buffer
stays Flush used buffer written is short = is
stays Delim used buffer written is short = is
stays RespEnd used buffer written is short = is
stays (Payload bytes) used buffer written is short = is.0 short

-- where the payload of one packet more lies
pub lies_more : (packet : Packet) (mid new : PacketReader) (chunk buffer written : List ℕ) (end offset used : ℕ) → passes_of mid ≡ false
    → Feeds mid (drop end chunk) (record { used = used; got = Got.Packet packet offset }) new → end + used ≤ length chunk
    → IsWritten packet used buffer written → (used < length (body_of (seen packet)) → end ≡ 0)
    → PayloadLies chunk written (end + used) packet
lies_more Flush mid new chunk buffer written end offset used gathers feeds within is first = tt
lies_more Delim mid new chunk buffer written end offset used gathers feeds within is first = tt
lies_more RespEnd mid new chunk buffer written end offset used gathers feeds within is first = tt
lies_more (Payload bytes) mid new chunk buffer written end offset used gathers feeds within is first =
    let there : length bytes.now ≤ end + used → length bytes.now ≤ used =
    λ short. elim (leb_tells (length bytes.now) used) [
      | inl fits ↦ fits.1
      | inr longer ↦ omega (arith, short, first longer.1)
    ] in (
      λ short.
          let at = last_used mid new (drop end chunk) used offset bytes gathers feeds (omega (arith, length-drop end chunk, within)) (there short) in
          in_chunk chunk end used bytes.now at.0 at.1,
      λ longer. rw (is.1 (omega (arith, longer))) (front_of_buffer bytes.now buffer),
    )

-- the payload that is in the buffer
cut_of : (packet : Packet) (used : ℕ) (buffer written : List ℕ) → IsWritten packet used buffer written → length (body_of (seen packet)) ≤ length buffer
    → (cut : List ℕ) × (length cut ≤ length buffer) × (written ≡ put_before cut buffer)
cut_of Flush used buffer written is fits = ([], omega arith, is)
cut_of Delim used buffer written is fits = ([], omega arith, is)
cut_of RespEnd used buffer written is fits = ([], omega arith, is)
cut_of (Payload bytes) used buffer written is fits =
    elim (leb_tells (length bytes.now) used) [
      | inl short ↦ ([], omega arith, is.0 short.1)
      | inr longer ↦ (bytes.now, fits, is.1 longer.1)
    ]

pub used_of : (packet : Packet) (used offset : ℕ) (one : GitwireAnswer) → one ≡ answer_of used (Got.Packet packet offset) → one.used ≡ used
used_of Flush used offset one is = ap (λ (a : GitwireAnswer). a.used) is
used_of Delim used offset one is = ap (λ (a : GitwireAnswer). a.used) is
used_of RespEnd used offset one is = ap (λ (a : GitwireAnswer). a.used) is
used_of (Payload bytes) used offset one is = ap (λ (a : GitwireAnswer). a.used) is

-- the first packet
first_listed : (old new : PacketReader) (chunk : List ℕ) (packets : List GitwireAnswer) (buffer : List ℕ) (next : List GitwireAnswer) (then : List ℕ)
    (one : GitwireAnswer) → passes_of old ≡ false → longest_payload ≤ length buffer → 0 < length packets
    → GivesPacket old chunk 0 buffer one then new → next ≡ set packets 0 one
    → ListedSoFar old chunk packets buffer new one.used 1 next then
first_listed old new chunk packets buffer next then one gathers suffices some gives sets =
    let end : one.used ≡ 0 + gives.used = used_of gives.packet (0 + gives.used) gives.offset one gives.packet_is in
    let lies = lies_more gives.packet old new chunk buffer then 0 gives.offset gives.used gathers gives.feeds gives.within gives.buffer_is (λ _. refl) in
    let cut = cut_of gives.packet gives.used buffer then gives.buffer_is (omega (arith, gives.fits, suffices)) in
    record {
      listed = one ∷ [];
      cut = cut.0;
      feeds =
          subst (λ (n : ℕ). FeedsEach old chunk then 0 (one ∷ []) new n) (sym end) (
            gives.packet,
            gives.offset,
            gives.used,
            new,
            record { feeds = gives.feeds; lies = lies; listed_is = gives.packet_is },
            (refl, refl),
          );
      counts = refl;
      cut_fits = cut.1;
      packets_are = filled_place packets [] packets next 0 one refl some refl sets;
      buffer_is = cut.2;
      fresh = λ none. absurd (omega (arith, none));
      closed = λ _. gives.feeds.counts.1;
    }

-- a packet after others, which began in the chunk
next_listed : (old mid new : PacketReader) (chunk : List ℕ) (packets : List GitwireAnswer) (buffer : List ℕ) (used count : ℕ) (filled next : List GitwireAnswer)
    (written then : List ℕ) (one : GitwireAnswer) → passes_of mid ≡ false → count < length packets → 0 < count
    → ListedSoFar old chunk packets buffer mid used count filled written
    → GivesPacket mid chunk used written one then new → next ≡ set filled count one
    → ListedSoFar old chunk packets buffer new one.used (count + 1) next then
next_listed old mid new chunk packets buffer used count filled next written then one gathers within some h gives sets =
    let end : one.used ≡ used + gives.used = used_of gives.packet (used + gives.used) gives.offset one gives.packet_is in
    let began : length (body_of (seen gives.packet)) ≤ gives.used = omega (arith, gives.feeds.counts.0, h.closed some) in
    let same : then ≡ written = stays gives.packet gives.used written then gives.buffer_is began in
    let lies : PayloadLies chunk written (used + gives.used) gives.packet =
    subst (λ (r : List ℕ). PayloadLies chunk r (used + gives.used) gives.packet) same (
    lies_more gives.packet mid new chunk written then used gives.offset gives.used gathers gives.feeds gives.within gives.buffer_is
    (λ longer. absurd (omega (arith, longer, began)))
    ) in
    let more =
    feeds_more h.listed old mid new chunk written 0 used h.feeds gives.packet gives.offset gives.used one
    (record { feeds = gives.feeds; lies = lies; listed_is = gives.packet_is }) in
    record {
      listed = h.listed ++ one ∷ [];
      cut = h.cut;
      feeds =
          subst (λ (n : ℕ). FeedsEach old chunk then 0 (h.listed ++ one ∷ []) new n) (sym end)
          (subst (λ (r : List ℕ). FeedsEach old chunk r 0 (h.listed ++ one ∷ []) new (used + gives.used)) (sym same) more);
      counts = omega (arith, h.counts, length-append h.listed (one ∷ []));
      cut_fits = h.cut_fits;
      packets_are = filled_place packets h.listed filled next count one h.counts within h.packets_are sets;
      buffer_is = same ∙ h.buffer_is;
      fresh = λ none. absurd (omega (arith, none));
      closed = λ _. gives.feeds.counts.1;
    }

pub listed_more : (old mid new : PacketReader) (chunk : List ℕ) (packets : List GitwireAnswer) (buffer : List ℕ) (used count : ℕ)
    (filled next : List GitwireAnswer) (written then : List ℕ) (one : GitwireAnswer) → passes_of mid ≡ false → longest_payload ≤ length buffer
    → count < length packets → ListedSoFar old chunk packets buffer mid used count filled written
    → GivesPacket mid chunk used written one then new → next ≡ set filled count one
    → ListedSoFar old chunk packets buffer new one.used (count + 1) next then
listed_more old mid new chunk packets buffer used count filled next written then one gathers suffices within h gives sets =
    elim (leb_tells count 0) [
      | inl none ↦
          let zero : count ≡ 0 = omega (arith, none.1) in
          let fresh = h.fresh zero in
          let before : filled ≡ packets = h.packets_are ∙ ap (λ (l : List GitwireAnswer). l ++ drop (length l) packets) fresh.0 in
          let gives_first : GivesPacket old chunk 0 buffer one then new =
          subst (λ (reader : PacketReader). GivesPacket reader chunk 0 buffer one then new) fresh.3
          (subst (λ (r : List ℕ). GivesPacket mid chunk 0 r one then new) fresh.2
          (subst (λ (n : ℕ). GivesPacket mid chunk n written one then new) fresh.1 gives)) in
          let sets_first : next ≡ set packets 0 one =
          sets ∙ ap (λ (l : List GitwireAnswer). set l count one) before ∙ ap (λ (n : ℕ). set packets n one) zero in
          let listed =
          first_listed old new chunk packets buffer next then one (subst (λ (reader : PacketReader). passes_of reader ≡ false) fresh.3 gathers) suffices
          (omega (arith, within)) gives_first sets_first in
          subst (λ (n : ℕ). ListedSoFar old chunk packets buffer new one.used (n + 1) next then) (sym zero) listed
      | inr some ↦ next_listed old mid new chunk packets buffer used count filled next written then one gathers within some.1 h gives sets
    ]

-- the array is full
pub stopped_full : (old last : PacketReader) (chunk : List ℕ) (packets : List GitwireAnswer) (buffer : List ℕ) (used count : ℕ) (answer : GitwireAnswer)
    (filled : List GitwireAnswer) (written : List ℕ) → ListedSoFar old chunk packets buffer last used count filled written
    → used ≤ length chunk → count ≡ length packets → answer ≡ answering_packet used 0 count What.More
    → ListsPackets old chunk packets buffer answer filled written last
stopped_full old last chunk packets buffer used count answer filled written h within full is =
    let stops : IsFull last used count (length packets) answer last = record { full = full; answer_is = is; stays = refl } in
    record {
      listed = h.listed;
      end = used;
      last = last;
      cut = h.cut;
      feeds = h.feeds;
      ends = inl (rw h.counts at stops);
      within = omega (arith, ap (λ (a : GitwireAnswer). a.used) is, within);
      count_fits = omega (arith, h.counts, full);
      cut_fits = h.cut_fits;
      packets_are = h.packets_are;
      buffer_is = h.buffer_is;
    }

-- one more call gives no packet
pub stopped_none : (old last new : PacketReader) (chunk : List ℕ) (packets : List GitwireAnswer) (buffer : List ℕ) (used count : ℕ) (answer : GitwireAnswer)
    (filled : List GitwireAnswer) (written then : List ℕ) → ListedSoFar old chunk packets buffer last used count filled written
    → count ≤ length packets → EndsHere last chunk used count written answer then new → ListsPackets old chunk packets buffer answer filled then new
stopped_none old last new chunk packets buffer used count answer filled written then h places here = record {
  listed = h.listed;
  end = used;
  last = last;
  cut = h.cut;
  feeds = subst (λ (r : List ℕ). FeedsEach old chunk r 0 h.listed last used) (sym here.2) h.feeds;
  ends = inr (rw h.counts at here.0);
  within = here.1;
  count_fits = omega (arith, h.counts, places);
  cut_fits = h.cut_fits;
  packets_are = h.packets_are;
  buffer_is = here.2 ∙ h.buffer_is;
}

-- a packet ends in the chunk
pub end_within : (old : PacketReader) (chunk : List ℕ) (from : ℕ) (buffer : List ℕ) (listed : GitwireAnswer) (written : List ℕ) (new : PacketReader)
    → GivesPacket old chunk from buffer listed written new → listed.used ≤ length chunk
end_within old chunk from buffer listed written new gives =
    omega (arith, used_of gives.packet (from + gives.used) gives.offset listed gives.packet_is, gives.within)
