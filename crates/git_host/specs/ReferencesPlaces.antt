-- How far an answer for references has come, by what was reported and what was sent.
use Rattle.std.specs.Prelude.{◌≡◌, ◌≢◌, ℕ, ◌≤◌, Bool, true, false, All, List, [], ◌∷◌, ◌++◌, codes, map, Option, Some, None, IsSome, Result, Ok, Err}
use Rattle.std.specs.Option.{ForSome}
use Rattle.std.specs.Str.{bytes_eq}
use Rattle.git_names.specs.declared.object_format.Format.{Format}
use Rattle.git_names.specs.RefName.{IsRefName}
use Rattle.git_pkt.specs.Packets.{Pkt, spelling_of}
use Rattle.git_msg.specs.Arguments.{Arg}
use Rattle.git_msg.specs.Asked.{ref_prefixes_in, peel_in, symrefs_in, unborn_in}
use Rattle.git_msg.specs.Kept.{Kept}
use Rattle.git_msg.specs.Prefixes.{ShowAlike}
use Rattle.git_server.specs.Answers.{reference_packet, reference_packets, shown_refs, unborn_packets}
use Rattle.git_server.specs.Repository.{Entry, IsNamed, IsOfFormat, IsRising, IsUnbornHead}
use Rattle.git_host.specs.FetchPlaces.{Holds}
use Rattle.git_host.specs.LastNames.{last_name}
use Rattle.git_host.specs.ReferenceTexts.{RefusesName}
pub use Rattle.git_host.specs.NextNames.{comes_after}
use Rattle.git_host.specs.declared.references_answer.ReferencesPlace.{ReferencesPlace}
use Rattle.git_host.specs.declared.references_answer.ReferencesPlace.TheVariants.{First, Entries, AfterUnborn, Whole}
use Rattle.git_host.specs.declared.references_answer.Reported.{Reported}
use Rattle.git_host.specs.declared.references_answer.Reported.TheVariants.{Packet, Hidden, NotAsked}
use Rattle.git_host.specs.declared.references_answer.ReferencesAnswer.{ReferencesAnswer}
use Rattle.git_host.specs.declared.report.ReferenceFault.{ReferenceFault}

-- what a store reported for one request for references: what an unborn `HEAD` points to, its references, and whether those are all of them
pub record ReferencesFacts : Type 0 where
  pub unborn : Option (List ℕ)
  pub refs : List Entry
  pub ended : Bool

abbrev pub no_references : ReferencesFacts
no_references = record { unborn = None; refs = []; ended = false }

-- a sound repository of the format may have these references: their names rise, and `HEAD` is none of them where it is unborn
pub record AreSoundReferences (format : Format) (t : ReferencesFacts) : Type 0 where
  pub rising : IsRising t.refs
  pub named : All (λ ref. IsNamed ref.name ref.target) t.refs
  pub of_format : All (IsOfFormat format) t.refs
  pub unborn : ForSome t.unborn (IsUnbornHead t.refs)

-- the packets are the answer to the request by what was reported
pub record IsReferencesAnswerOf (format : Format) (q : List Arg) (t : ReferencesFacts) (packets : List Pkt) : Type 0 where
  pub sound : AreSoundReferences format t
  pub ended : t.ended ≡ true
  pub packets_are : packets ≡ unborn_packets q t.unborn ++ reference_packets q t.refs

-- the name of the reference that was reported last, if one was
abbrev pub IsLast : List Entry → Option (List ℕ) → Type 0
IsLast refs None = refs ≡ []
IsLast refs (Some name) = (front : List Entry) × (entry : Entry) × (refs ≡ front ++ entry ∷ []) × (entry.name ≡ name)

-- the request that is answered is this one, but for the order of its prefixes
pub record IsAlike (q kept : List Arg) : Type 0 where
  pub symrefs : symrefs_in kept ≡ symrefs_in q
  pub peel : peel_in kept ≡ peel_in q
  pub unborn : unborn_in kept ≡ unborn_in q
  pub alike : ShowAlike (ref_prefixes_in q) (ref_prefixes_in kept)

-- the packets that what was reported so far calls for
abbrev pub packets_so_far : List Arg → ReferencesFacts → List Pkt
packets_so_far q t = unborn_packets q t.unborn ++ map (reference_packet (symrefs_in q) (peel_in q)) (shown_refs (ref_prefixes_in q) t.refs)

-- references were reported, perhaps none so far
pub record AtEntries (format : Format) (q : List Arg) (t : ReferencesFacts) (last : Option (List ℕ)) (given : List Pkt) : Type 0 where
  pub sound : AreSoundReferences format t
  pub last_is : IsLast t.refs last
  pub given_is : given ≡ packets_so_far q t

-- nothing was reported
pub record AtFirst (t : ReferencesFacts) (last : Option (List ℕ)) (given : List Pkt) : Type 0 where
  pub nothing : t ≡ no_references
  pub last_is : last ≡ None
  pub given_is : given ≡ []

abbrev pub StandsAtReferences : ReferencesPlace → Format → List Arg → ReferencesFacts → Option (List ℕ) → List Pkt → Type 0
StandsAtReferences First format q t last given = AtFirst t last given
StandsAtReferences Entries format q t last given = (t.unborn ≡ None) × AtEntries format q t last given
StandsAtReferences AfterUnborn format q t last given = IsSome t.unborn × AtEntries format q t last given
StandsAtReferences Whole format q t last given = IsReferencesAnswerOf format q t given

-- the place after a reference
abbrev pub after_entry : ReferencesPlace → ReferencesPlace
after_entry First = Entries
after_entry Entries = Entries
after_entry AfterUnborn = AfterUnborn
after_entry Whole = Whole

-- the name is that of `HEAD`, which was reported as unborn
abbrev pub refuses_head_at : ReferencesPlace → List ℕ → Bool
refuses_head_at AfterUnborn name = bytes_eq name (codes "HEAD")
refuses_head_at place name = false

-- one reference more, or what an unborn `HEAD` points to
abbrev pub with_ref : Entry → ReferencesFacts → ReferencesFacts
with_ref entry t = record t { refs = t.refs ++ entry ∷ [] }

abbrev pub with_unborn : List ℕ → ReferencesFacts → ReferencesFacts
with_unborn target t = record t { unborn = Some target }

-- the end of the references
abbrev pub with_references_end : ReferencesFacts → ReferencesFacts
with_references_end t = record t { ended = true }

module _ {A : Type 0} where
  -- the name of the reference that was reported last, if one was
  abbrev pub last_reported : ReferencesAnswer A → Option (List ℕ)
  last_reported answer = last_name answer.last

  abbrev pub format_of : ReferencesAnswer A → Format
  format_of answer = answer.format

  abbrev pub refuses_head : ReferencesAnswer A → List ℕ → Bool
  refuses_head answer name = refuses_head_at answer.place name

  -- all was reported
  abbrev pub is_whole : ReferencesAnswer A → Type 0
  is_whole answer = answer.place ≡ Whole

  -- something was reported
  abbrev pub HasBegun : ReferencesAnswer A → Type 0
  HasBegun answer = answer.place ≢ First

  -- these facts were reported for a request, and these packets were sent
  pub record RepresentsReferences (q : List Arg) (t : ReferencesFacts) (given : List Pkt) (answer : ReferencesAnswer A) : Type 0 where
    pub alike : IsAlike q answer.listing.asked
    pub stands : StandsAtReferences answer.place answer.format q t (last_reported answer) given

  -- no more is kept of this request than of the other
  pub record KeepsAs (request : Kept (List Arg)) (answer : ReferencesAnswer A) : Type 0 where
    pub kept : answer.listing.kept ≡ request.kept
    pub stored : answer.listing.stored ≤ request.stored

  -- the answer is to the same request, whose prefixes may have been put in order
  pub record IsToTheSame (old new : ReferencesAnswer A) : Type 0 where
    pub format : format_of new ≡ format_of old
    pub keeps : KeepsAs old.listing new

  -- the answer is new
  abbrev pub Starts : List Arg → ReferencesAnswer A → Type 0
  Starts q answer = RepresentsReferences q no_references [] answer

  -- the facts become these, and these bytes are the next packet
  abbrev pub ReportsOn : (ReferencesFacts → ReferencesFacts) → ReferencesAnswer A → List ℕ → ReferencesAnswer A → Type 0
  ReportsOn with old bytes new = (q : List Arg) (t : ReferencesFacts) (given : List Pkt) → RepresentsReferences q t given old
      → (packet : Pkt) × Holds bytes packet × RepresentsReferences q (with t) (given ++ packet ∷ []) new

  -- the facts become these, and no packet is sent
  abbrev pub ReportsHidden : (ReferencesFacts → ReferencesFacts) → ReferencesAnswer A → ReferencesAnswer A → Type 0
  ReportsHidden with old new =
      (q : List Arg) (t : ReferencesFacts) (given : List Pkt) → RepresentsReferences q t given old → RepresentsReferences q (with t) given new

  -- no sound repository has what was reported together with this reference
  abbrev pub IsUnsoundAfter : Entry → ReferencesAnswer A → Type 0
  IsUnsoundAfter entry old = (q : List Arg) (t : ReferencesFacts) (given : List Pkt) → RepresentsReferences q t given old
      → ¬ AreSoundReferences (format_of old) (with_ref entry t)

  -- what the report of a reference does
  abbrev pub Reports : Entry → ReferencesAnswer A → Reported → List ℕ → ReferencesAnswer A → Type 0
  Reports entry old Packet bytes new = IsToTheSame old new × ReportsOn (with_ref entry) old bytes new
  Reports entry old Hidden bytes new = IsToTheSame old new × ReportsHidden (with_ref entry) old new
  Reports entry old NotAsked bytes new = (new ≡ old) × is_whole old
  Reports entry old unsound bytes new = (new ≡ old) × IsUnsoundAfter entry old

  -- what the report of an unborn `HEAD` does
  abbrev pub ReportsUnborn : List ℕ → ReferencesAnswer A → Reported → List ℕ → ReferencesAnswer A → Type 0
  ReportsUnborn target old Packet bytes new = IsToTheSame old new × ReportsOn (with_unborn target) old bytes new
  ReportsUnborn target old Hidden bytes new = IsToTheSame old new × ReportsHidden (with_unborn target) old new
  ReportsUnborn target old NotAsked bytes new = (new ≡ old) × HasBegun old
  ReportsUnborn target old other bytes new = ⊥

  -- what the end does
  abbrev pub Ends : ReferencesAnswer A → Bool → List ℕ → ReferencesAnswer A → Type 0
  Ends old true bytes new = IsToTheSame old new × ReportsOn with_references_end old bytes new × is_whole new
  Ends old false bytes new = (new ≡ old) × is_whole old

-- ---- a reference whose name is known, and whose line is still to be written
module _ {A : Type 0} where
  -- whether the request asks for the names that references point to, and for the objects that annotated tags peel to
  abbrev pub symrefs_of : ReferencesAnswer A → Bool
  symrefs_of answer = symrefs_in answer.listing.asked

  abbrev pub peel_of : ReferencesAnswer A → Bool
  peel_of answer = peel_in answer.listing.asked

  -- what the report of any reference with this name and with objects of the format does
  abbrev pub TakesReference : Format → List ℕ → ReferencesAnswer A → Result Reported ReferenceFault → ReferencesAnswer A → Type 0
  TakesReference format name old (Ok reported) new = IsRefName name × ((entry : Entry) → entry.name ≡ name → IsNamed name entry.target → IsOfFormat format entry
      → Reports entry old reported (spelling_of (reference_packet (symrefs_of old) (peel_of old) entry)) new)
  TakesReference format name old (Err fault) new = RefusesName fault name × (new ≡ old)
