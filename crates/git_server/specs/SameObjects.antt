-- Two names are the same if neither comes before the other.
use Rattle.std.proofs.Common.{◌≡◌, ℕ, true, List, refl}
use Rattle.std.specs.Ordering.{nat_cmp, is_eq, ordering_then}
use Rattle.std.specs.Cmp.Lexicographic.{slice_cmp}
use Rattle.std.specs.FinMap.{nat_cmp-IsAntisymmetric, slice_cmp-IsAntisymmetric}
use Rattle.std.specs.declared.cmp.Ordering.{Ordering}
use Rattle.std.specs.declared.cmp.Ordering.TheVariants.{Less, Equal, Greater}
use Rattle.git_names.specs.declared.object_format.Format.{Format}
use Rattle.git_names.specs.declared.object_format.Format.TheVariants.{Sha1, Sha256}
use Rattle.git_names.specs.ObjectName.{ObjectName}
use Rattle.git_server.specs.Objects.{format_cmp, object_cmp}

pub same_name : (a b : List ℕ) → slice_cmp nat_cmp a b ≡ Equal → a ≡ b
same_name a b h = slice_cmp-IsAntisymmetric nat_cmp-IsAntisymmetric a b h

same_format : (a b : Format) → format_cmp a b ≡ Equal → a ≡ b
same_format Sha1 Sha1 h = refl
same_format Sha1 Sha256 h = cc
same_format Sha256 Sha1 h = cc
same_format Sha256 Sha256 h = refl

both_tied : (o p : Ordering) → ordering_then o p ≡ Equal → (o ≡ Equal) × (p ≡ Equal)
both_tied Less p h = cc
both_tied Equal p h = (refl, h)
both_tied Greater p h = cc

-- two object names are the same if neither comes before the other
pub same_object : (a b : ObjectName) → object_cmp a b ≡ Equal → a ≡ b
same_object a b h =
    let both = both_tied _ _ h in
    let of_format = same_format _ _ both.0 in
    let of_bytes = same_name _ _ both.1 in
    λ i. record { format = of_format i; bytes = of_bytes i }

pub is_tied : (o : Ordering) → is_eq o ≡ true → o ≡ Equal
is_tied Less h = cc
is_tied Equal h = refl
is_tied Greater h = cc
