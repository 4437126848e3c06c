-- The object names of a repository's references are of one format.
use Rattle.std.proofs.Common.{◌≡◌, ℕ, ◌<◌, Bool, true, false, if◌then◌else◌, Option, Some, None, List, length, slice_index_or, All, ap, sym, ◌∙◌, subst}
use Rattle.git_names.specs.ObjectName.{ObjectName}
use Rattle.git_names.specs.declared.object_format.Format.{Format}
use Rattle.git_msg.specs.References.{HasFormat, reference_of}
use Rattle.git_server.specs.Repository.{Entry, Repository, IsSound, IsOfFormat, HasOneFormat}

one_format : (format : Format) (ref : Entry) → IsOfFormat format ref → HasOneFormat ref
one_format format ref h = record { by_peeled = λ id is. h.by_peeled id is ∙ sym h.by_id }

-- so are those of each of them
pub of_one_format : (repo : Repository) (refs : List Entry) (at : ℕ) (ref : Entry)
    → IsSound repo → refs ≡ repo.refs → at < length refs → ref ≡ slice_index_or refs at ref → HasOneFormat ref
of_one_format repo refs at ref sound same within here =
    let all : All (IsOfFormat repo.format) refs = subst (λ (l : List Entry). All (IsOfFormat repo.format) l) (sym same) sound.of_format in
    one_format repo.format ref (subst (IsOfFormat repo.format) (sym here) (all at ref within))

shown_peeled_format : (peel : Bool) (entry : Entry) → HasOneFormat entry → (id : ObjectName) → (if peel then entry.peeled else None) ≡ Some id
    → id.format ≡ entry.id.format
shown_peeled_format true entry h id is = h.by_peeled id is
shown_peeled_format false entry h id is = absurd (cc)

-- so are those of what is shown of it
pub shown_has_format : (entry : Entry) (id : ObjectName) (name : List ℕ) (target : Option (List ℕ)) (peel : Bool) (peeled : Option ObjectName)
    → HasOneFormat entry → id ≡ entry.id → peeled ≡ (if peel then entry.peeled else None)
    → HasFormat entry.id.format (reference_of (Some id) name target peeled)
shown_has_format entry id name target peel peeled h named shown = record {
  by_id = λ other is. let same : id ≡ other = cc in ap (λ (o : ObjectName). o.format) (sym same ∙ named);
  by_peeled = λ other is. shown_peeled_format peel entry h other (sym shown ∙ is);
}
