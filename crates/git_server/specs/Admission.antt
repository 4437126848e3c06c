-- The objects and references that a repository refuses in a request because it does not have them.
use Rattle.std.specs.Prelude.{◌≡◌, ◌≢◌, if◌then◌else◌, true, All, Option, Some, None}
use Rattle.git_names.specs.ObjectName.{ObjectName}
use Rattle.git_pkt.specs.declared.fault.Kind.{Kind}
use Rattle.git_pkt.specs.declared.fault.Kind.TheVariants.{NotOurs, UnknownRef}
use Rattle.git_msg.specs.Arguments.{Arg, with_id, with_text}
use Rattle.git_msg.specs.declared.words.ObjectWord.{ObjectWord}
use Rattle.git_msg.specs.declared.words.TextWord.{TextWord}
use Rattle.git_msg.specs.Asked.{Asked, ls_refs, fetch, object_info, want_refs_in, wants_in}
use Rattle.git_server.specs.Repository.{Repository, found_ref}

-- the name of the error that refuses a reference, if the reference is not found
abbrev pub barred_ref : Option ObjectName → Option Kind
barred_ref (Some id) = None
barred_ref None = Some UnknownRef

-- the error with which the repository refuses an argument
abbrev pub barred : Repository → Arg → Option Kind
barred repo (with_id ObjectWord.Want id) = if repo.has id then None else Some NotOurs
barred repo (with_text TextWord.WantRef name) = barred_ref (found_ref repo.refs name)
barred repo arg = None

-- the repository has each object and each reference that a fetch wants
abbrev pub HasAsked : Repository → Asked → Type 0
HasAsked repo (ls_refs q) = Unit {0}
HasAsked repo (object_info q) = Unit {0}
HasAsked repo (fetch q) = All (λ id. repo.has id ≡ true) (wants_in q) × All (λ name. found_ref repo.refs name ≢ None) (want_refs_in q)
