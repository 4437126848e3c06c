-- What texts are not, by computing.
use Rattle.std.proofs.Common.{Some, ◌≡◌, ◌≢◌, ℕ, Bool, true, false, not, List, codes, length, take, refl, ap, ◌∙◌}
use Rattle.std.proofs.Math.Seq.{take-append_seam}
use Rattle.std.proofs.lemmas.Slice.Eq.{bytes_eq-Decides}
use Rattle.std.specs.Str.{bytes_eq}
use Rattle.git_msg.specs.Texts.{BeginsOtherThan, IsErrorText}

-- texts that differ
pub differ : (a b : List ℕ) → bytes_eq a b ≡ false → a ≢ b
differ a b h e =
    let same : bytes_eq a b ≡ true = (bytes_eq-Decides a b).1 e in
    cc

-- two present texts that are equal
pub some_same : (a b : List ℕ) → Some a ≡ Some b → a ≡ b
some_same a b e = cc

-- a text that does not begin with the word
pub begins_otherwise : (word text : List ℕ) → bytes_eq (take (length word) text) word ≡ false → BeginsOtherThan word text
begins_otherwise word text h rest e = differ (take (length word) text) word h (ap (take (length word)) e ∙ take-append_seam word rest)

-- it is not that of an error packet
pub no_error_by : (text : List ℕ) → bytes_eq (take 4 text) (codes "ERR ") ≡ false → ¬ IsErrorText text
no_error_by text h error = begins_otherwise (codes "ERR ") text h error.message error.spelled

-- a test that fails
pub not_true : (b : Bool) → not b ≡ true → b ≡ false
not_true true h = cc
not_true false h = refl
