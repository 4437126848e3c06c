-- What was reported so far, with one report more.
use Rattle.std.proofs.Common.{arith, ◌≡◌, ℕ, ◌+◌, ◌<◌, Bool, true, false, List, [], ◌∷◌, ◌++◌}
use Rattle.std.proofs.Common.{length, map, slice_get, Some, refl, sym, ap, ◌∙◌, append_assoc, append-nil, inl, inr}
use Rattle.git_names.specs.ObjectName.{ObjectName}
use Rattle.git_pkt.specs.Packets.{Pkt, longest_payload}
use Rattle.git_pkt.specs.Bands.{band_packet}
use Rattle.git_pkt.specs.declared.band.Band.TheVariants.{Pack, Progress}
use Rattle.git_msg.specs.Asked.{is_empty}
use Rattle.git_msg.specs.ResponseLines.{wanted_of, wanted_text}
use Rattle.git_msg.specs.WrittenRequest.{text_line}
use Rattle.git_host.specs.FetchFacts.{AreParts, picked, wanted_lines}

pub length_more : {X : Type 0} (xs : List X) (x : X) → length (xs ++ x ∷ []) ≡ length xs + 1
length_more [] x = refl
length_more (y ∷ ys) x = omega (arith, length_more ys x)

-- the next item is reported as there
pub picked_true : {X : Type 0} (bs : List Bool) (xs : List X) (x : X) → slice_get xs (length bs) ≡ Some x
    → picked (bs ++ true ∷ []) xs ≡ picked bs xs ++ x ∷ []
picked_true [] [] x here = absurd (cc)
picked_true [] (y ∷ ys) x here = let same : y ≡ x = cc in ap (λ z. z ∷ []) same
picked_true (b ∷ bs) [] x here = absurd (cc)
picked_true (true ∷ bs) (y ∷ ys) x here = ap (λ l. y ∷ l) (picked_true bs ys x here)
picked_true (false ∷ bs) (y ∷ ys) x here = picked_true bs ys x here

-- or as absent
pub picked_false : {X : Type 0} (bs : List Bool) (xs : List X) → picked (bs ++ false ∷ []) xs ≡ picked bs xs
picked_false [] [] = refl
picked_false [] (y ∷ ys) = refl
picked_false (b ∷ bs) [] = refl
picked_false (true ∷ bs) (y ∷ ys) = ap (λ l. y ∷ l) (picked_false bs ys)
picked_false (false ∷ bs) (y ∷ ys) = picked_false bs ys

pub not_empty_more : {X : Type 0} (xs : List X) (x : X) → is_empty (xs ++ x ∷ []) ≡ false
not_empty_more [] x = refl
not_empty_more (y ∷ ys) x = refl

pub empty_is : {X : Type 0} (xs : List X) → is_empty xs ≡ true → xs ≡ []
empty_is [] e = refl
empty_is (x ∷ xs) e = absurd (cc)

pub map_more : {X Y : Type 0} (f : X → Y) (xs : List X) (x : X) → map f (xs ++ x ∷ []) ≡ map f xs ++ f x ∷ []
map_more f [] x = refl
map_more f (y ∷ ys) x = ap (λ l. f y ∷ l) (map_more f ys x)

-- the line of the next name
pub lines_more : (ids : List ObjectName) (names : List (List ℕ)) (id : ObjectName) (name : List ℕ) → slice_get names (length ids) ≡ Some name
    → wanted_lines (ids ++ id ∷ []) names ≡ wanted_lines ids names ++ text_line (wanted_text (wanted_of id name)) ∷ []
lines_more [] [] id name here = absurd (cc)
lines_more [] (n ∷ ns) id name here = let same : n ≡ name = cc in ap (λ (m : List ℕ). text_line (wanted_text (wanted_of id m)) ∷ []) same
lines_more (i ∷ is) [] id name here = absurd (cc)
lines_more (i ∷ is) (n ∷ ns) id name here = ap (λ (l : List Pkt). text_line (wanted_text (wanted_of i n)) ∷ l) (lines_more is ns id name here)

module _ (bytes : List ℕ) (some : 0 < length bytes) (fits : length bytes < longest_payload) where
  -- a part of the pack comes after the others
  pub pack_more : (pack progress : List ℕ) (parts : List Pkt) → AreParts pack progress parts
      → AreParts (pack ++ bytes) progress (parts ++ band_packet Pack bytes ∷ [])
  pack_more pack progress [] h = inl (record {
    part = bytes;
    more = [];
    cut = ap (λ (l : List ℕ). l ++ bytes) h.0 ∙ sym (append-nil bytes);
    some = some;
    fits = fits;
    is = refl;
    rest = (refl, h.1);
  })
  pack_more pack progress (p ∷ ps) (inl h) = inl (record {
    part = h.part;
    more = h.more ++ bytes;
    cut = ap (λ (l : List ℕ). l ++ bytes) h.cut ∙ append_assoc h.part h.more bytes;
    some = h.some;
    fits = h.fits;
    is = h.is;
    rest = pack_more h.more progress ps h.rest;
  })
  pack_more pack progress (p ∷ ps) (inr h) = inr (record {
    part = h.part;
    more = h.more;
    cut = h.cut;
    some = h.some;
    fits = h.fits;
    is = h.is;
    rest = pack_more pack h.more ps h.rest;
  })

  -- as does a part of the progress
  pub progress_more : (pack progress : List ℕ) (parts : List Pkt) → AreParts pack progress parts
      → AreParts pack (progress ++ bytes) (parts ++ band_packet Progress bytes ∷ [])
  progress_more pack progress [] h = inr (record {
    part = bytes;
    more = [];
    cut = ap (λ (l : List ℕ). l ++ bytes) h.1 ∙ sym (append-nil bytes);
    some = some;
    fits = fits;
    is = refl;
    rest = (h.0, refl);
  })
  progress_more pack progress (p ∷ ps) (inl h) = inl (record {
    part = h.part;
    more = h.more;
    cut = h.cut;
    some = h.some;
    fits = h.fits;
    is = h.is;
    rest = progress_more h.more progress ps h.rest;
  })
  progress_more pack progress (p ∷ ps) (inr h) = inr (record {
    part = h.part;
    more = h.more ++ bytes;
    cut = ap (λ (l : List ℕ). l ++ bytes) h.cut ∙ append_assoc h.part h.more bytes;
    some = h.some;
    fits = h.fits;
    is = h.is;
    rest = progress_more pack h.more ps h.rest;
  })
