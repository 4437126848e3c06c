-- An unborn `HEAD`: its line may be written, and what it points to is a reference name.
use Rattle.std.proofs.Common.{arith, ◌≡◌, ◌≢◌, ℕ, ◌<◌, ◌≤◌, Bool, true, false, not, Option, Some, None, List, [], Bor}
use Rattle.std.proofs.Common.{codes, length, take, slice_index, refl, sym, subst, IfSome, MatchBool, MatchOption, All}
use Rattle.std.specs.List.{HoldsAt}
use Rattle.std.specs.Option.{option_copied, is_some, ForSome}
use Rattle.git_names.specs.NextByte.{IsPlain, MayFollow}
use Rattle.git_names.specs.RefName.{EndsWith, IsRefName}
use Rattle.git_names.specs.declared.object_format.Format.TheVariants.{Sha1}
use Rattle.git_names.proofs.PlainBytes.{is_plain, IsPlain-is_plain}
use Rattle.git_names.proofs.RefNames.{ref_name_from, slash_follows}
use Rattle.git_names.proofs.Tables.{all_pass-at}
use Rattle.git_msg.specs.References.{IsWritable, reference_of}
use Rattle.git_server.specs.Repository.{Entry, IsUnbornHead}

-- `HEAD` is a reference name.

letters_are_plain : (k : ℕ) → k < 4 → IsPlain (slice_index (codes "HEAD") k)
letters_are_plain k inside =
    IsPlain-is_plain (slice_index (codes "HEAD") k) (all_pass-at (λ k. is_plain (slice_index (codes "HEAD") k)) 4 k refl inside)

plain_follows : (front : List ℕ) (byte : ℕ) → IsPlain byte → MayFollow front byte
plain_follows front byte plain = record {
  allowed = plain.allowed;
  no_empty_component = λ is. absurd (plain.no_slash is);
  no_component_to_lock = λ is. absurd (plain.no_slash is);
  no_component_from_dot = λ is. absurd (plain.no_dot is);
  no_two_dots = λ is. absurd (plain.no_dot is);
  no_at_brace = λ is. absurd (plain.no_brace is);
}

no_dot_at_end : ¬ EndsWith (codes "HEAD") (codes ".")
no_dot_at_end h = let last : 68 ≡ 46 = h.1.reads 0 (omega arith) in omega (arith, last)

no_slash_at_end : ¬ EndsWith (codes "HEAD") (codes "/")
no_slash_at_end h = let last : 68 ≡ 47 = h.1.reads 0 (omega arith) in omega (arith, last)

no_lock_at_end : ¬ EndsWith (codes "HEAD") (codes ".lock")
no_lock_at_end h = let fits : 5 ≤ 4 = h.0 in omega (arith, fits)

pub head_is_name : IsRefName (codes "HEAD")
head_is_name =
    ref_name_from (codes "HEAD") (λ other. absurd (other refl)) (omega arith)
    (λ k inside. plain_follows (take k (codes "HEAD")) (slice_index (codes "HEAD") k) (letters_are_plain k inside))
    no_dot_at_end (slash_follows (codes "HEAD") no_slash_at_end no_lock_at_end)

-- the line of an unborn `HEAD` may be written
pub unborn_is_writable : (target : List ℕ) → IsRefName target → IsWritable (reference_of None (codes "HEAD") (Some target) None)
unborn_is_writable target named = record {
  name = head_is_name;
  target = λ name is. let same : target ≡ name = cc in subst IsRefName same named;
  one_format = (Sha1, record { by_id = λ id is. absurd cc; by_peeled = λ id is. absurd cc });
}

-- what a repository gives for it is a reference name
pub asked_named : (refs : List Entry) (head : Option (List ℕ)) (found : Option (Bor (List ℕ))) → ForSome head (IsUnbornHead refs)
    → option_copied found ≡ head → IfSome found (λ target. IsRefName target.now)
asked_named refs head None sound is = tt
asked_named refs head (Some target) sound is = (sound target.now (sym is)).named

-- Whether lists make a repository that has it.

unborn_head_is : (refs : List Entry) (target : List ℕ) → IsUnbornHead refs target → ForSome (Some target) (IsUnbornHead refs)
unborn_head_is refs target head other is = let same : target ≡ other = cc in subst (IsUnbornHead refs) same head

-- a name that is none cannot be what it points to
pub not_named : (refs : List Entry) (target : List ℕ) → ¬ IsRefName target → ¬ ForSome (Some target) (IsUnbornHead refs)
not_named refs target unnamed h = unnamed (h target refl).named

-- any reference
some_entry : Entry
some_entry = record { name = []; id = record { format = Sha1; bytes = [] }; target = None; peeled = None }

-- nor can one where there is a reference `HEAD`
pub head_searched : (refs : List Entry) (target : List ℕ) (found : Option ℕ) (none : Bool) → IsRefName target
    → MatchOption found (All (λ ref. ref.name ≢ codes "HEAD") refs) (λ at. (at < length refs) × HoldsAt (λ ref. ref.name ≡ codes "HEAD") refs at)
    → is_some found ≡ not none → MatchBool none (ForSome (Some target) (IsUnbornHead refs)) (¬ ForSome (Some target) (IsUnbornHead refs))
head_searched refs target None true named searched is = unborn_head_is refs target (record { named = named; no_head = searched })
head_searched refs target None false named searched is = absurd cc
head_searched refs target (Some at) true named searched is = absurd cc
head_searched refs target (Some at) false named searched is = λ h. (h target refl).no_head at some_entry searched.0 (searched.1 some_entry)
