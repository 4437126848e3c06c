-- What the calls of a machine did, in their order.
use Rattle.std.specs.Prelude.{◌≡◌, ℕ, eqb, Bool, true, if◌then◌else◌, List, [], ◌∷◌, ◌++◌}
use Rattle.std.proofs.Common.{refl, sym, ap, ◌∙◌, append_assoc}

-- bytes of the input of this number were used, that input ended, or bytes went to the output of this number
pub data Move : Type 0 where
  used : ℕ → List ℕ → Move
  closed : ℕ → Move
  gave : ℕ → List ℕ → Move

-- the bytes of one input that were used
abbrev pub used_by : ℕ → Move → List ℕ
used_by k (used n bytes) = if (eqb k n) then bytes else []
used_by k (closed n) = []
used_by k (gave n bytes) = []

abbrev pub used_of : ℕ → List Move → List ℕ
used_of k [] = []
used_of k (move ∷ moves) = used_by k move ++ used_of k moves

-- the bytes that went to one output
abbrev pub given_by : ℕ → Move → List ℕ
given_by k (used n bytes) = []
given_by k (closed n) = []
given_by k (gave n bytes) = if (eqb k n) then bytes else []

abbrev pub given_to : ℕ → List Move → List ℕ
given_to k [] = []
given_to k (move ∷ moves) = given_by k move ++ given_to k moves

-- whether one input has ended, by whether it had before
abbrev pub ended_by : ℕ → Bool → Move → Bool
ended_by k over (used n bytes) = over
ended_by k over (closed n) = if (eqb k n) then true else over
ended_by k over (gave n bytes) = over

abbrev pub ended_after : ℕ → Bool → List Move → Bool
ended_after k over [] = over
ended_after k over (move ∷ moves) = ended_after k (ended_by k over move) moves

-- ---- moves after other moves

pub used_of-append : (k : ℕ) (t u : List Move) → used_of k (t ++ u) ≡ used_of k t ++ used_of k u
used_of-append k [] u = refl
used_of-append k (m ∷ t) u =
    ap (λ (l : List ℕ). used_by k m ++ l) (used_of-append k t u) ∙ sym (append_assoc (used_by k m) (used_of k t) (used_of k u))

pub given_to-append : (k : ℕ) (t u : List Move) → given_to k (t ++ u) ≡ given_to k t ++ given_to k u
given_to-append k [] u = refl
given_to-append k (m ∷ t) u =
    ap (λ (l : List ℕ). given_by k m ++ l) (given_to-append k t u) ∙ sym (append_assoc (given_by k m) (given_to k t) (given_to k u))

pub ended_after-append : (k : ℕ) (over : Bool) (t u : List Move) → ended_after k over (t ++ u) ≡ ended_after k (ended_after k over t) u
ended_after-append k over [] u = refl
ended_after-append k over (m ∷ t) u = ended_after-append k (ended_by k over m) t u
