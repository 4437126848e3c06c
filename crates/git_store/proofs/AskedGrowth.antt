-- The requests of bytes are one list, and with more bytes they are that list and perhaps more.
use Rattle.std.proofs.Common.{arith, ◌≡◌, ℕ, ◌+◌, ◌≤◌, List, [], ◌∷◌, ◌++◌, length, refl, sym, ap, ◌∙◌, append_assoc, append-nil, length-append, subst}
use Rattle.git_pkt.specs.Packets.{Pkt}
use Rattle.git_pkt.specs.Splits.{Given, NoneBegins, SpellsAll}
use Rattle.git_pkt.proofs.Spelling.{same_start}
use Rattle.git_pkt.proofs.Streams.{spells_all_more}
use Rattle.git_msg.specs.declared.offers.Offer.{Offer}
use Rattle.git_msg.specs.Asked.{Asked}
use Rattle.git_msg.specs.WholeRequests.{AreRequests}
use Rattle.git_msg.specs.Machine.RequestStreams.{AreAsked, IsOne}
use Rattle.git_msg.proofs.WholeRequests.{first_request}

same_given : (g h : Given) → g.packet ≡ h.packet → g.offset ≡ h.offset → g ≡ h
same_given g h e o =
    let packets = ap (λ (p : Pkt). let made : Given = record { packet = p; offset = g.offset } in made) e in
    let offsets = ap (λ (n : ℕ). let made : Given = record { packet = h.packet; offset = n } in made) o in
    packets ∙ offsets

-- a split with nothing further begins with each split
split_front : (p : ℕ) (bytes : List ℕ) (gs hs : List Given) (rest others : List ℕ) → SpellsAll p bytes gs rest → SpellsAll p bytes hs others
    → NoneBegins others → (extra : List Given) × (hs ≡ gs ++ extra)
split_front p bytes [] hs rest others a b none = (hs, refl)
split_front p bytes (g ∷ gs) [] rest others (s, more, e, o, spells, tail) b none = absurd (none g.packet s more (sym b ∙ e) spells)
split_front p bytes (g ∷ gs) (h ∷ hs) rest others (s, more, e, o, spells, tail) (t, later, f, i, k, end) none =
    let same = same_start g.packet h.packet s t more later spells k (sym e ∙ f) in
    let moved : SpellsAll (p + length s) more hs others = rw (same.spelling, same.rest) end in
    let (extra, is) = split_front (p + length s) more gs hs rest others tail moved none in
    (extra, ap (λ (x : Given). x ∷ hs) (sym (same_given g h same.packet (o ∙ sym i))) ∙ ap (λ (xs : List Given). g ∷ xs) is)

pub none_more : {X : Type 0} (xs : List X) → length xs ≤ 0 → xs ≡ []
none_more [] few = refl
none_more (x ∷ xs) few = absurd (omega (arith, few))

module _ (offer : Offer) (limit : ℕ) where
  requests_grow : (packets extra : List Given) (asked others : List Asked) (left rest : List Given) → AreRequests (IsOne offer limit) packets asked left
      → AreRequests (IsOne offer limit) (packets ++ extra) others rest → length asked ≤ length others
      → (further : List Asked) × (others ≡ asked ++ further)
  requests_grow packets extra [] others left rest h k fewer = (others, refl)
  requests_grow packets extra (q ∷ qs) [] left rest h k fewer = absurd (omega (arith, fewer))
  requests_grow packets extra (q ∷ qs) (r ∷ rs) left rest (front, more, whole, is, later) (other, behind, all, is_other, its_later) fewer =
      let cut = sym (append_assoc front more extra) ∙ sym (ap (λ (gs : List Given). gs ++ extra) whole) ∙ all in
      let same = first_request offer limit (IsOne offer limit) (λ front q is. is) front (more ++ extra) other behind q r is is_other cut in
      let tail = requests_grow more extra qs rs left rest later
      (subst (λ (gs : List Given). AreRequests (IsOne offer limit) gs rs rest) (sym same.1) its_later) (omega (arith, fewer)) in
      (tail.0, ap (λ (x : Asked). x ∷ rs) (sym same.0) ∙ ap (λ (l : List Asked). q ∷ l) tail.1)

  pub asked_grow : (used more : List ℕ) (asked others : List Asked) (left behind : List Given) (rest back : List ℕ)
      → AreAsked offer limit used asked left rest → AreAsked offer limit (used ++ more) others behind back → length asked ≤ length others
      → (further : List Asked) × (others ≡ asked ++ further)
  asked_grow used more asked others left behind rest back h k fewer =
      let (extra, is) = split_front 0 (used ++ more) h.packets k.packets (rest ++ more) back
      (spells_all_more 0 used h.packets rest more h.splits.spelled) k.splits.spelled k.splits.ends in
      requests_grow h.packets extra asked others left behind h.requests
      (subst (λ (gs : List Given). AreRequests (IsOne offer limit) gs others behind) is k.requests) fewer

  pub asked_once : (used : List ℕ) (asked others : List Asked) (left behind : List Given) (rest back : List ℕ)
      → AreAsked offer limit used asked left rest → AreAsked offer limit used others behind back → length asked ≡ length others → others ≡ asked
  asked_once used asked others left behind rest back h k same =
      let (further, is) = asked_grow used [] asked others left behind rest back h
      (subst (λ (u : List ℕ). AreAsked offer limit u others behind back) (sym (append-nil used)) k) (omega (arith, same)) in
      let none = none_more further (omega (arith, same, ap length is, length-append asked further)) in
      is ∙ ap (λ (l : List Asked). asked ++ l) none ∙ append-nil asked
