-- What a store reports of what a fetch asks for, before its answer, and how far an admission has come.
use Rattle.std.specs.Prelude.{◌≡◌, ◌≢◌, ℕ, ◌<◌, ◌≤◌, Bool, true, false, All, List, [], ◌∷◌, ◌++◌, length, map, take, slice_get}
use Rattle.std.specs.Prelude.{Option, Some, None, Result, Ok, Err}
use Rattle.git_names.specs.ObjectName.{ObjectName}
use Rattle.git_names.specs.declared.object_format.Format.{Format}
use Rattle.git_pkt.specs.declared.fault.Kind.{Kind}
use Rattle.git_pkt.specs.declared.fault.Kind.TheVariants.{NotOurs, UnknownRef}
use Rattle.git_msg.specs.Arguments.{Arg}
use Rattle.git_msg.specs.Asked.{want_refs_in, wants_in}
use Rattle.git_msg.specs.Kept.{Kept}
use Rattle.git_host.specs.declared.admission.AdmissionStep.{AdmissionStep}
use Rattle.git_host.specs.declared.admission.AdmissionStep.TheVariants.{AskWant, AskWantRef, Admitted, Refused}
use Rattle.git_host.specs.declared.admission.WantRefReported.{WantRefReported}
use Rattle.git_host.specs.declared.admission.WantRefReported.TheVariants.{Taken, MixedFormats, NotAsked}
use Rattle.git_host.specs.declared.admission.Admission.{Admission}

-- what a store reported, by place: whether it has each wanted object, and the object of each wanted reference, if there is such a reference
pub record AdmissionFacts : Type 0 where
  pub wants : List Bool
  pub found : List (Option ObjectName)

abbrev pub nothing_reported : AdmissionFacts
nothing_reported = record { wants = []; found = [] }

-- the store has each of the objects
abbrev pub all_there : List ObjectName → List Bool
all_there ids = map (λ id. true) ids

-- the store has all that the request asks for, and these are the objects of the wanted references
pub record IsAdmitted (format : Format) (q : List Arg) (a : AdmissionFacts) (ids : List ObjectName) : Type 0 where
  pub there : a.wants ≡ all_there (wants_in q)
  pub found : a.found ≡ map Some ids
  pub all : length ids ≡ length (want_refs_in q)
  pub of_format : All (λ id. id.format ≡ format) ids

-- the store lacks the wanted object at some place, and has each before it
pub record IsNotOurs (q : List Arg) (a : AdmissionFacts) : Type 0 where
  pub at : ℕ
  pub within : at < length (wants_in q)
  pub wants : a.wants ≡ all_there (take at (wants_in q)) ++ false ∷ []
  pub none_found : a.found ≡ []

-- the store has each wanted object, lacks the wanted reference at some place, and has each before it
pub record IsUnknownRef (q : List Arg) (a : AdmissionFacts) : Type 0 where
  pub ids : List ObjectName
  pub there : a.wants ≡ all_there (wants_in q)
  pub within : length ids < length (want_refs_in q)
  pub found : a.found ≡ map Some ids ++ None ∷ []

-- the request is refused by this name
abbrev pub IsRefusedBy : Kind → List Arg → AdmissionFacts → Type 0
IsRefusedBy NotOurs q a = IsNotOurs q a
IsRefusedBy UnknownRef q a = IsUnknownRef q a
IsRefusedBy kind q a = ⊥

-- ---- how far an admission has come

pub record AtWant (at : ℕ) (q : List Arg) (a : AdmissionFacts) (ids : List ObjectName) : Type 0 where
  pub within : at < length (wants_in q)
  pub so_far : a.wants ≡ all_there (take at (wants_in q))
  pub none_found : a.found ≡ []
  pub none_kept : ids ≡ []

pub record AtWantRef (at : ℕ) (format : Format) (q : List Arg) (a : AdmissionFacts) (ids : List ObjectName) : Type 0 where
  pub within : at < length (want_refs_in q)
  pub there : a.wants ≡ all_there (wants_in q)
  pub found : a.found ≡ map Some ids
  pub so_far : length ids ≡ at
  pub of_format : All (λ id. id.format ≡ format) ids

abbrev pub StandsAtStep : AdmissionStep → Format → List Arg → AdmissionFacts → List ObjectName → Type 0
StandsAtStep (AskWant at) format q a ids = AtWant at q a ids
StandsAtStep (AskWantRef at) format q a ids = AtWantRef at format q a ids
StandsAtStep Admitted format q a ids = IsAdmitted format q a ids
StandsAtStep (Refused kind) format q a ids = (length ids ≤ length (want_refs_in q)) × IsRefusedBy kind q a

-- the first step if there is a value, else the second
abbrev pub step_by : {X : Type 0} → Option X → AdmissionStep → AdmissionStep → AdmissionStep
step_by (Some x) there past = there
step_by None there past = past

-- what is asked from the wanted reference at this place on
abbrev pub reference_step : ℕ → List (List ℕ) → AdmissionStep
reference_step at names = step_by (slice_get names at) (AskWantRef at) Admitted

-- what is asked from the wanted object at this place on
abbrev pub want_step : ℕ → List ObjectName → List (List ℕ) → AdmissionStep
want_step at wants names = step_by (slice_get wants at) (AskWant at) (reference_step 0 names)

-- one report more
abbrev pub with_want : Bool → AdmissionFacts → AdmissionFacts
with_want has a = record a { wants = a.wants ++ has ∷ [] }

abbrev pub with_found : Option ObjectName → AdmissionFacts → AdmissionFacts
with_found id a = record a { found = a.found ++ id ∷ [] }

abbrev pub is_want : AdmissionStep → Bool
is_want (AskWant at) = true
is_want step = false

abbrev pub is_want_ref : AdmissionStep → Bool
is_want_ref (AskWantRef at) = true
is_want_ref step = false

module _ {A : Type 0} where
  abbrev pub request_of : Admission A → Kept (List Arg)
  request_of admission = admission.request

  abbrev pub asked_of : Admission A → List Arg
  asked_of admission = admission.request.asked

  abbrev pub format_of : Admission A → Format
  format_of admission = admission.format

  abbrev pub step_of : Admission A → AdmissionStep
  step_of admission = admission.step

  -- the objects of wanted references that it keeps
  abbrev pub wanted_by : Admission A → List ObjectName
  wanted_by admission = admission.wanted.items

  -- these facts were reported
  abbrev pub RepresentsAdmission : AdmissionFacts → Admission A → Type 0
  RepresentsAdmission a admission = StandsAtStep admission.step admission.format (asked_of admission) a (wanted_by admission)

  -- the facts become these
  pub record Reports (with : AdmissionFacts → AdmissionFacts) (old new : Admission A) : Type 0 where
    pub request : request_of new ≡ request_of old
    pub format : format_of new ≡ format_of old
    pub represents : (a : AdmissionFacts) → RepresentsAdmission a old → RepresentsAdmission (with a) new

  -- nothing changed: the same is asked and kept
  pub record IsSame (old new : Admission A) : Type 0 where
    pub request : new.request ≡ old.request
    pub format : format_of new ≡ format_of old
    pub step : step_of new ≡ step_of old
    pub wanted : wanted_by new ≡ wanted_by old

  -- what the report of a wanted object does
  abbrev pub ReportsWant : Bool → Admission A → Bool → Admission A → Type 0
  ReportsWant has old true new = (is_want (step_of old) ≡ true) × Reports (with_want has) old new
  ReportsWant has old false new = (is_want (step_of old) ≡ false) × (new ≡ old)

  -- the object is of another format
  abbrev pub IsOfOtherFormat : Option ObjectName → Admission A → Type 0
  IsOfOtherFormat None old = ⊥
  IsOfOtherFormat (Some id) old = id.format ≢ format_of old

  -- what the report of a wanted reference does
  abbrev pub ReportsWantRef : {E : Type 0} → Option ObjectName → Admission A → Result WantRefReported E → Admission A → Type 0
  ReportsWantRef id old (Ok Taken) new = (is_want_ref (step_of old) ≡ true) × Reports (with_found id) old new
  ReportsWantRef id old (Ok MixedFormats) new = (new ≡ old) × IsOfOtherFormat id old
  ReportsWantRef id old (Ok NotAsked) new = (is_want_ref (step_of old) ≡ false) × (new ≡ old)
  ReportsWantRef id old (Err refused) new = (is_want_ref (step_of old) ≡ true) × IsSame old new
