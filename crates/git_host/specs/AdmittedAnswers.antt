-- What becomes of an admission once the store has all that its request asks for.
use Rattle.std.specs.Prelude.{◌≡◌, ◌≢◌, [], Result, Ok, Err}
use Rattle.git_host.specs.Admissions.{AdmissionFacts, IsAdmitted, RepresentsAdmission, asked_of, format_of, request_of, step_of, wanted_by}
use Rattle.git_host.specs.FetchFacts.{no_facts}
use Rattle.git_host.specs.FetchPlaces.{Represents, format_of as fetch_format, request_of as fetch_request}
use Rattle.git_host.specs.declared.admission.AdmissionStep.TheVariants.{Admitted}
use Rattle.git_host.specs.declared.admission.Admission.{Admission}
use Rattle.git_host.specs.declared.fetch_answer.FetchAnswer.{FetchAnswer}

module _ {A : Type 0} where
  -- the answer to the request that was admitted, before its first packet
  pub record BecomesAnswer (old : Admission A) (answer : FetchAnswer A) : Type 0 where
    pub request : fetch_request answer ≡ request_of old
    pub format : fetch_format answer ≡ format_of old
    pub admitted : (a : AdmissionFacts) → RepresentsAdmission a old → IsAdmitted (format_of old) (asked_of old) a (wanted_by old)
    pub represents : (a : AdmissionFacts) → RepresentsAdmission a old → Represents (no_facts (wanted_by old)) [] answer

  -- the answer, if the request was admitted; else the admission as it was
  abbrev pub Becomes : Admission A → Result (FetchAnswer A) (Admission A) → Type 0
  Becomes old (Ok answer) = (step_of old ≡ Admitted) × BecomesAnswer old answer
  Becomes old (Err same) = (step_of old ≢ Admitted) × (same ≡ old)
