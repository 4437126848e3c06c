-- Whole requests, with one more or one less; and packets are whole requests in one way.
use Rattle.std.proofs.Common.{◌≡◌, ◌≢◌, ℕ, Bool, true, false, List, [], ◌∷◌, ◌++◌, refl, sym, ap, ◌∙◌, append_assoc, append-nil, subst, rules, arith, inl, inr}
use Rattle.std.proofs.lemmas.List.{same_from_push}
use Rattle.git_pkt.specs.Packets.{Pkt, flush}
use Rattle.git_pkt.specs.Splits.{Given}
use Rattle.git_msg.specs.declared.offers.Offer.{Offer}
use Rattle.git_msg.specs.Asked.{Asked}
use Rattle.git_msg.specs.Lines.{Line, IsLine, IsLineIn}
use Rattle.git_msg.specs.Requests.{AreLines, Asks}
use Rattle.git_msg.specs.WholeRequests.{AreRequests}
use Rattle.git_msg.proofs.Cuts.{two_cuts}
use Rattle.git_msg.proofs.LineLaws.{one_request}
use Rattle.std.proofs.lemmas.Grind.{common_steps}

pub last_same : (xs ys : List Given) (x y : Given) → xs ++ x ∷ [] ≡ ys ++ y ∷ [] → x ≡ y
last_same xs ys x y e = (same_from_push xs ys x y e).1

module _ (IsOne : List Given → Asked → Type 0) where
  -- more packets after those left
  pub requests_more : (packets more : List Given) (asked : List Asked) (left : List Given) → AreRequests IsOne packets asked left
      → AreRequests IsOne (packets ++ more) asked (left ++ more)
  requests_more packets more [] left same = ap (λ (l : List Given). l ++ more) same
  requests_more packets more (q ∷ qs) left (front, back, whole, first, rest) =
      (front, back ++ more, ap (λ (l : List Given). l ++ more) whole ∙ append_assoc front back more, first, requests_more back more qs left rest)

  -- the packets left are the last ones
  pub left_at_the_end : (packets : List Given) (asked : List Asked) (left : List Given) → AreRequests IsOne packets asked left
      → (before : List Given) × (packets ≡ before ++ left)
  left_at_the_end packets [] left same = ([], same)
  left_at_the_end packets (q ∷ qs) left (front, more, whole, first, rest) =
      let (before, parts) = left_at_the_end more qs left rest in
      (front ++ before, whole ∙ ap (λ (gs : List Given). front ++ gs) parts ∙ sym (append_assoc front before left))

  -- the packets left are one more request
  pub one_more_request : (packets : List Given) (asked : List Asked) (left : List Given) (q : Asked) → AreRequests IsOne packets asked left → IsOne left q
      → AreRequests IsOne packets (asked ++ q ∷ []) []
  one_more_request packets [] left q same is = (left, [], same ∙ sym (append-nil left), is, refl)
  one_more_request packets (p ∷ ps) left q (front, back, whole, first, rest) is = (front, back, whole, first, one_more_request back ps left q rest is)

  -- the last request, taken back
  pub record TakenBack (packets : List Given) (qs : List Asked) (q : Asked) : Type 0 where
    pub left : List Given
    pub earlier : AreRequests IsOne packets qs left
    pub is_one : IsOne left q
    pub before : List Given
    pub behind : packets ≡ before ++ left

  pub last_request : (packets : List Given) (qs : List Asked) (q : Asked) → AreRequests IsOne packets (qs ++ q ∷ []) [] → TakenBack packets qs q
  last_request packets [] q (front, more, whole, is, rest) =
      let same : packets ≡ front = whole ∙ ap (λ (l : List Given). front ++ l) rest ∙ append-nil front in
      record { left = packets; earlier = refl; is_one = subst (λ (l : List Given). IsOne l q) (sym same) is; before = []; behind = refl }
  last_request packets (p ∷ ps) q (front, more, whole, first, rest) =
      let later = last_request more ps q rest in
      record {
        left = later.left;
        earlier = (front, more, whole, first, later.earlier);
        is_one = later.is_one;
        before = front ++ later.before;
        behind = whole ∙ ap (λ (l : List Given). front ++ l) later.behind ∙ sym (append_assoc front later.before later.left);
      }

  -- its last packet is the last of all
  pub last_packet : (packets : List Given) (qs : List Asked) (q : Asked) (t : TakenBack packets qs q) (front own_front : List Given) (last own : Given)
      → packets ≡ front ++ last ∷ [] → t.left ≡ own_front ++ own ∷ [] → own ≡ last
  last_packet packets qs q t front own_front last own e own_is =
      let both : (t.before ++ own_front) ++ own ∷ [] ≡ front ++ last ∷ [] =
      append_assoc t.before own_front (own ∷ []) ∙ ap (λ (l : List Given). t.before ++ l) (sym own_is) ∙ sym t.behind ∙ e in
      last_same (t.before ++ own_front) front own last both

  -- no request begins the packets
  abbrev pub NoRequest : List Given → Type 0
  NoRequest left = (front more : List Given) (q : Asked) → left ≡ front ++ more → IsOne front q → ⊥

-- no packet of the list is a flush
abbrev pub NoFlush : List Given → Type 0
NoFlush [] = Unit {0}
NoFlush (g ∷ gs) = (g.packet ≢ flush) × NoFlush gs

flush_is_no_line_in : (part : Bool) (offer : Offer) (limit : ℕ) (before : List Line) (line : Line) → IsLineIn part offer limit before flush line → ⊥
flush_is_no_line_in true offer limit before line h = h
flush_is_no_line_in false offer limit before line h = h

pub flush_is_no_line : (offer : Offer) (limit : ℕ) (before : List Line) (packet : Pkt) (line : Line) → IsLine offer limit before packet line → packet ≢ flush
flush_is_no_line offer limit before packet line h is = search (rules, flush_is_no_line_in)

pub lines_have_no_flush : (offer : Offer) (limit : ℕ) (before : List Line) (gs : List Given) (lines : List Line) → AreLines offer limit before gs lines
    → NoFlush gs
lines_have_no_flush offer limit before [] lines h = tt
lines_have_no_flush offer limit before (g ∷ gs) [] h = absurd h
lines_have_no_flush offer limit before (g ∷ gs) (l ∷ ls) h =
    (flush_is_no_line offer limit before g.packet l h.0, lines_have_no_flush offer limit (before ++ l ∷ []) gs ls h.1)

pub flush_inside : (xs more left : List Given) (last : Given) → NoFlush left → last.packet ≡ flush → left ≡ xs ++ last ∷ more → ⊥
flush_inside [] more [] last none ends e = cc
flush_inside (x ∷ xs) more [] last none ends e = cc
flush_inside [] more (g ∷ gs) last none ends e = let same : g ≡ last = cc in none.0 (ap (λ (p : Given). p.packet) same ∙ ends)
flush_inside (x ∷ xs) more (g ∷ gs) last none ends e = let same : gs ≡ xs ++ last ∷ more = cc in flush_inside xs more gs last none.1 ends same

-- the packets up to the first flush
record SameFront (xs ys more others : List Given) (l m : Given) : Type 0 where
  pub front : xs ++ l ∷ [] ≡ ys ++ m ∷ []
  pub back : more ≡ others

same_front : (xs ys more others : List Given) (l m : Given) → NoFlush xs → NoFlush ys → l.packet ≡ flush → m.packet ≡ flush
    → xs ++ l ∷ more ≡ ys ++ m ∷ others → SameFront xs ys more others l m
same_front xs ys more others l m none clear l_ends m_ends e = elim (two_cuts xs ys l m more others e) [
  | inl here ↦ record { front = cc; back = here.2 }
  | inr (inl (mid, is, left)) ↦ absurd (flush_inside ys mid xs m none m_ends is)
  | inr (inr (mid, is, left)) ↦ absurd (flush_inside xs mid ys l clear l_ends is)
]

-- a whole request is its lines and a flush
pub whole_then : (offer : Offer) (limit : ℕ) (front more packets : List Given) (q : Asked) (kept : ℕ) (a : Asks offer limit front q kept)
    → packets ≡ front ++ more → packets ≡ a.front ++ a.last ∷ more
whole_then offer limit front more packets q kept a e = e ∙ ap (λ (gs : List Given). gs ++ more) a.whole ∙ append_assoc a.front (a.last ∷ []) more

module _ (offer : Offer) (limit : ℕ) (IsOne : List Given → Asked → Type 0)
    (asks : (front : List Given) (q : Asked) → IsOne front q → (kept : ℕ) × Asks offer limit front q kept) where
  pub none_without_flush : (left : List Given) → NoFlush left → NoRequest IsOne left
  none_without_flush left none front more q e is = grind (arith, common_steps, flush_inside, whole_then)

  -- packets begin with one request, and the same packets come after it
  pub first_request : (front more other behind : List Given) (q r : Asked) → IsOne front q → IsOne other r → front ++ more ≡ other ++ behind
      → (q ≡ r) × (more ≡ behind)
  first_request front more other behind q r is is_other e =
      let (kept, a) = asks front q is in
      let (long, b) = asks other r is_other in
      let same = same_front a.front b.front more behind a.last b.last (lines_have_no_flush offer limit [] a.front a.lines a.taken)
      (lines_have_no_flush offer limit [] b.front b.lines b.taken) a.ends b.ends
      (sym (whole_then offer limit front more (front ++ more) q kept a refl) ∙ e
      ∙ whole_then offer limit other behind (other ++ behind) r long b refl) in
      let fronts : front ≡ other = a.whole ∙ same.front ∙ sym b.whole in
      ((one_request offer limit other q r kept long (subst (λ (gs : List Given). Asks offer limit gs q kept) fronts a) b).0, same.back)

  -- packets are one list of requests, with the same packets left after them
  pub one_list_of_requests : (packets : List Given) (asked others : List Asked) (left rest : List Given) → NoRequest IsOne left → NoRequest IsOne rest
      → AreRequests IsOne packets asked left → AreRequests IsOne packets others rest → (asked ≡ others) × (left ≡ rest)
  one_list_of_requests packets [] [] left rest none clear h k = (refl, sym h ∙ k)
  one_list_of_requests packets [] (q ∷ qs) left rest none clear h (front, more, whole, is, later) = absurd (none front more q (sym h ∙ whole) is)
  one_list_of_requests packets (q ∷ qs) [] left rest none clear (front, more, whole, is, later) k = absurd (clear front more q (sym k ∙ whole) is)
  one_list_of_requests packets (q ∷ qs) (r ∷ rs) left rest none clear (front, more, whole, is, later) (other, behind, all, is_other, its_later) =
      let (first, behind_same) = first_request front more other behind q r is is_other (sym whole ∙ all) in
      let tail = one_list_of_requests more qs rs left rest none clear later
      (subst (λ (gs : List Given). AreRequests IsOne gs rs rest) (sym behind_same) its_later) in
      (ap (λ (x : Asked). x ∷ qs) first ∙ ap (λ (l : List Asked). r ∷ l) tail.0, tail.1)
