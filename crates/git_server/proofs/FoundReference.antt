-- The object of the first reference of a name is that of the only one, since the names rise strictly.
use Rattle.std.proofs.Common.{◌≡◌, ℕ, Option, List, refl}
use Rattle.std.specs.Str.{bytes_eq}
use Rattle.std.proofs.lemmas.Cmp.{nat_list_cmp_total}
use Rattle.std.proofs.lemmas.Slice.Eq.{bytes_eq-Decides}
use Rattle.git_names.specs.ObjectName.{ObjectName}
use Rattle.git_server.specs.Repository.{Entry, IsFound, IsRising, found_ref}
use Rattle.git_server.proofs.FirstOfKey.{only_is}

pub found_is : (refs : List Entry) (name : List ℕ) (found : Option ObjectName) → IsRising refs → IsFound refs name found → found_ref refs name ≡ found
found_is refs name found rising is =
    only_is nat_list_cmp_total (λ (ref : Entry). ref.name) (λ (ref : Entry). ref.id) name (λ (ref : Entry). bytes_eq ref.name name)
    (λ ref. bytes_eq-Decides ref.name name) (λ refs. found_ref refs name) refl (λ ref refs. refl) refs found rising is
