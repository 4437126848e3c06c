-- The packets of an array, one call of `feed` after another, with no buffer.
use Rattle.std.proofs.Common.{arith, ◌≡◌, ◌∙◌, ℕ, ◌+◌, ◌<◌, ◌≤◌, false, List, [], ◌∷◌, ◌++◌, length, take, drop, set, sym, ap, refl, subst}
use Rattle.std.proofs.Common.{length-append, inl, inr}
use Rattle.std.proofs.Math.Seq.{take-length}
use Rattle.std.proofs.lemmas.Bool.Decides.{leb_tells}
use Rattle.git_pkt.specs.Packets.{body_of, seen}
use Rattle.git_pkt.specs.Machine.PacketReader.{Feeds, open_length, passes_of}
use Rattle.git_pkt.specs.declared.packet.Packet.{Packet}
use Rattle.git_pkt.specs.declared.packet.Packet.TheVariants.{Flush, Delim, RespEnd, Payload}
use Rattle.git_pkt.specs.declared.reader.Got.TheVariants as Got
use Rattle.git_pkt.specs.declared.reader.PacketReader.{PacketReader}
use Rattle.gitwire.specs.Answers.{answering_packet}
use Rattle.gitwire.specs.PacketAnswers.{answer_of}
use Rattle.gitwire.specs.PacketLists.{FeedsEach, IsFull, IsWritten, PayloadLies}
use Rattle.gitwire.specs.PacketsInPlace.{GivesListed, GivesNoneListed, IsKept, ListsHeld}
use Rattle.gitwire.specs.PayloadsLent.{payload_held}
use Rattle.gitwire.specs.declared.answer.GitwireAnswer.{GitwireAnswer}
use Rattle.gitwire.specs.declared.answer.What.TheVariants as What
use Rattle.gitwire.proofs.FilledArrays.{filled_place}
use Rattle.gitwire.proofs.ListedPackets.{feeds_more, lies_more, used_of}

-- what the array has so far, of this chunk and array: no payload of it is in the reader
pub record HeldSoFar (old : PacketReader) (chunk : List ℕ) (packets : List GitwireAnswer) (now : PacketReader) (used count : ℕ)
    (filled : List GitwireAnswer) : Type 0 where
  pub listed : List GitwireAnswer
  pub feeds : (held : List ℕ) → FeedsEach old chunk held 0 listed now used
  pub counts : count ≡ length listed
  pub packets_are : filled ≡ listed ++ drop (length listed) packets
  pub fresh : count ≡ 0 → (listed ≡ []) × (used ≡ 0)
  pub closed : 0 < count → open_length now ≡ 0

pub nothing_held : (old : PacketReader) (chunk : List ℕ) (packets : List GitwireAnswer) → HeldSoFar old chunk packets old 0 0 packets
nothing_held old chunk packets = record {
  listed = [];
  feeds = λ held. (refl, refl);
  counts = refl;
  packets_are = refl;
  fresh = λ none. (refl, refl);
  closed = λ some. absurd (omega (arith, some));
}

length_of : (packet : Packet) (used offset : ℕ) (one : GitwireAnswer) → one ≡ answer_of used (Got.Packet packet offset)
    → one.length ≡ length (body_of (seen packet))
length_of Flush used offset one is = ap (λ (a : GitwireAnswer). a.length) is
length_of Delim used offset one is = ap (λ (a : GitwireAnswer). a.length) is
length_of RespEnd used offset one is = ap (λ (a : GitwireAnswer). a.length) is
length_of (Payload bytes) used offset one is = ap (λ (a : GitwireAnswer). a.length) is

-- a packet whose payload is no longer than the bytes used needs no buffer
needs_none : (packet : Packet) (used : ℕ) (buffer : List ℕ) → length (body_of (seen packet)) ≤ used → IsWritten packet used buffer buffer
needs_none Flush used buffer short = refl
needs_none Delim used buffer short = refl
needs_none RespEnd used buffer short = refl
needs_none (Payload bytes) used buffer short = (λ _. refl, λ longer. absurd (omega (arith, short, longer)))

-- a longer payload is what the reader lends
lies_held : (packet : Packet) (mid new : PacketReader) (chunk from_there : List ℕ) (end offset used : ℕ)
    → Feeds mid from_there (record { used = used; got = Got.Packet packet offset }) new → end < length (body_of (seen packet))
    → PayloadLies chunk (payload_held new) end packet
lies_held Flush mid new chunk from_there end offset used feeds longer = tt
lies_held Delim mid new chunk from_there end offset used feeds longer = tt
lies_held RespEnd mid new chunk from_there end offset used feeds longer = tt
lies_held (Payload bytes) mid new chunk from_there end offset used feeds longer = (
  λ short. absurd (omega (arith, short, longer)),
  λ _. ap (λ (l : List ℕ). take (length bytes.now) l) feeds.announces.3.body ∙ take-length bytes.now,
)

-- the array with one packet more
placed : (old now new : PacketReader) (chunk : List ℕ) (packets : List GitwireAnswer) (used count : ℕ) (filled next : List GitwireAnswer)
    (one : GitwireAnswer) → count < length packets → (h : HeldSoFar old chunk packets now used count filled) → next ≡ set filled count one
    → next ≡ (h.listed ++ one ∷ []) ++ drop (length (h.listed ++ one ∷ [])) packets
placed old now new chunk packets used count filled next one within h sets =
    filled_place packets h.listed filled next count one h.counts within h.packets_are sets

-- one packet more, wherever its payload lies
feeds_one : (old now new : PacketReader) (chunk : List ℕ) (packets : List GitwireAnswer) (used count : ℕ) (filled : List GitwireAnswer)
    (one : GitwireAnswer) (held : List ℕ) → (h : HeldSoFar old chunk packets now used count filled) → (gives : GivesListed now chunk used one new)
    → PayloadLies chunk held (used + gives.used) gives.packet → FeedsEach old chunk held 0 (h.listed ++ one ∷ []) new one.used
feeds_one old now new chunk packets used count filled one held h gives lies =
    subst (λ (n : ℕ). FeedsEach old chunk held 0 (h.listed ++ one ∷ []) new n)
    (sym (used_of gives.packet (used + gives.used) gives.offset one gives.packet_is))
    (feeds_more h.listed old now new chunk held 0 used (h.feeds held) gives.packet gives.offset gives.used one
    (record { feeds = gives.feeds; lies = lies; listed_is = gives.packet_is }))

-- a payload that is longer than the bytes used is that of the first packet
is_first : (old now new : PacketReader) (chunk : List ℕ) (packets : List GitwireAnswer) (used count : ℕ) (filled : List GitwireAnswer)
    (one : GitwireAnswer) → HeldSoFar old chunk packets now used count filled → (gives : GivesListed now chunk used one new)
    → gives.used < length (body_of (seen gives.packet)) → count ≡ 0
is_first old now new chunk packets used count filled one h gives longer =
    elim (leb_tells count 0) [
      | inl none ↦ omega (arith, none.1)
      | inr some ↦ absurd (omega (arith, gives.feeds.counts.0, h.closed some.1, longer))
    ]

-- a packet whose payload is in the chunk
pub held_more : (old now new : PacketReader) (chunk : List ℕ) (packets : List GitwireAnswer) (used count : ℕ) (filled next : List GitwireAnswer)
    (one : GitwireAnswer) → passes_of now ≡ false → count < length packets → HeldSoFar old chunk packets now used count filled
    → GivesListed now chunk used one new → next ≡ set filled count one → one.length ≤ one.used
    → HeldSoFar old chunk packets new one.used (count + 1) next
held_more old now new chunk packets used count filled next one gathers within h gives sets short =
    let long : one.length ≡ length (body_of (seen gives.packet)) = length_of gives.packet (used + gives.used) gives.offset one gives.packet_is in
    let end : one.used ≡ used + gives.used = used_of gives.packet (used + gives.used) gives.offset one gives.packet_is in
    let began : length (body_of (seen gives.packet)) ≤ gives.used =
    elim (leb_tells (length (body_of (seen gives.packet))) gives.used) [
      | inl fits ↦ fits.1
      | inr longer ↦ omega (
        arith,
        short,
        long,
        end,
        (h.fresh (is_first old now new chunk packets used count filled one h gives longer.1)).1,
      )
    ] in
    record {
      listed = h.listed ++ one ∷ [];
      feeds =
          λ held. feeds_one old now new chunk packets used count filled one held h gives (
          lies_more gives.packet now new chunk held held used gives.offset gives.used gathers gives.feeds gives.within
          (needs_none gives.packet gives.used held began)
          (λ longer. absurd (omega (arith, longer, began)))
          );
      counts = omega (arith, h.counts, length-append h.listed (one ∷ []));
      packets_are = placed old now new chunk packets used count filled next one within h sets;
      fresh = λ none. absurd (omega (arith, none));
      closed = λ _. gives.feeds.counts.1;
    }

-- the reader has to keep the payload of the first packet
pub stopped_kept : (old now new : PacketReader) (chunk : List ℕ) (packets : List GitwireAnswer) (used count : ℕ) (filled next : List GitwireAnswer)
    (one answer : GitwireAnswer) → count < length packets → HeldSoFar old chunk packets now used count filled
    → GivesListed now chunk used one new → next ≡ set filled count one → one.used < one.length
    → answer ≡ answering_packet one.used 0 1 What.More → ListsHeld old chunk packets answer next new
stopped_kept old now new chunk packets used count filled next one answer within h gives sets longer is =
    let long : one.length ≡ length (body_of (seen gives.packet)) = length_of gives.packet (used + gives.used) gives.offset one gives.packet_is in
    let end : one.used ≡ used + gives.used = used_of gives.packet (used + gives.used) gives.offset one gives.packet_is in
    let first : count ≡ 0 = is_first old now new chunk packets used count filled one h gives (omega (arith, longer, long, end)) in
    let kept : IsKept new one.used (h.listed ++ one ∷ []) answer new = record {
      packet = one;
      alone = ap (λ (l : List GitwireAnswer). l ++ one ∷ []) (h.fresh first).0;
      longer = longer;
      answer_is = is;
      stays = refl;
    } in
    record {
      listed = h.listed ++ one ∷ [];
      end = one.used;
      last = new;
      feeds =
          feeds_one old now new chunk packets used count filled one (payload_held new) h gives
          (lies_held gives.packet now new chunk (drop used chunk) (used + gives.used) gives.offset gives.used gives.feeds (omega (arith, longer, long, end)));
      ends = inr (inl kept);
      within = omega (arith, ap (λ (a : GitwireAnswer). a.used) is, end, gives.within);
      count_fits = omega (arith, within, h.counts, length-append h.listed (one ∷ []));
      packets_are = placed old now new chunk packets used count filled next one within h sets;
    }

-- the array is full
pub stopped_full_held : (old last : PacketReader) (chunk : List ℕ) (packets : List GitwireAnswer) (used count : ℕ) (answer : GitwireAnswer)
    (filled : List GitwireAnswer) → HeldSoFar old chunk packets last used count filled
    → used ≤ length chunk → count ≡ length packets → answer ≡ answering_packet used 0 count What.More
    → ListsHeld old chunk packets answer filled last
stopped_full_held old last chunk packets used count answer filled h within full is =
    let stops : IsFull last used count (length packets) answer last = record { full = full; answer_is = is; stays = refl } in
    record {
      listed = h.listed;
      end = used;
      last = last;
      feeds = h.feeds (payload_held last);
      ends = inl (rw h.counts at stops);
      within = omega (arith, ap (λ (a : GitwireAnswer). a.used) is, within);
      count_fits = omega (arith, h.counts, full);
      packets_are = h.packets_are;
    }

-- one more call gives no packet
pub stopped_none_held : (old last new : PacketReader) (chunk : List ℕ) (packets : List GitwireAnswer) (used count : ℕ) (answer : GitwireAnswer)
    (filled : List GitwireAnswer) → HeldSoFar old chunk packets last used count filled
    → count ≤ length packets → GivesNoneListed last chunk used count answer new → ListsHeld old chunk packets answer filled new
stopped_none_held old last new chunk packets used count answer filled h places here = record {
  listed = h.listed;
  end = used;
  last = last;
  feeds = h.feeds (payload_held new);
  ends = inr (inr (rw h.counts at here.0));
  within = here.1;
  count_fits = omega (arith, h.counts, places);
  packets_are = h.packets_are;
}

-- a packet ends in the chunk
pub end_listed_within : (old : PacketReader) (chunk : List ℕ) (from : ℕ) (listed : GitwireAnswer) (new : PacketReader)
    → GivesListed old chunk from listed new → listed.used ≤ length chunk
end_listed_within old chunk from listed new gives =
    omega (arith, used_of gives.packet (from + gives.used) gives.offset listed gives.packet_is, gives.within)
