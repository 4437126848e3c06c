-- The report of a reference by its texts.
use Rattle.std.proofs.Common.{◌≡◌, ℕ, List, Option, Result, Ok, Err, inl, inr, refl, sym, ap, ◌∙◌, subst}
use Rattle.std.specs.Prelude.{MatchResult}
use Rattle.std.specs.Result.{IsErrAnd}
use Rattle.git_names.specs.RefName.{IsRefName}
use Rattle.git_names.specs.declared.object_format.Format.{Format}
use Rattle.git_pkt.specs.Packets.{spelling_of}
use Rattle.git_server.specs.Answers.{reference_packet}
use Rattle.git_server.specs.Repository.{Entry}
use Rattle.git_host.specs.HostAnswers.{IsReason, ReportsBy, TakesReference, asks_peel, asks_symrefs, reported_as}
use Rattle.git_host.specs.HostServer.{ReportsHost, ReportsTexts}
use Rattle.git_host.specs.ReferenceTexts.{AreAttributes, RefusesAttributes, RefusesName, RefusesTexts, Texts}
use Rattle.git_host.specs.ReferencesPlaces.{TakesReference as AnswerTakes, peel_of, symrefs_of}
use Rattle.git_host.specs.WrittenDigits.{SpellsId}
use Rattle.git_host.specs.declared.host_answer.HostAnswer.{HostAnswer}
use Rattle.git_host.specs.declared.host_answer.HostAnswer.TheVariants.{Admission, Fetch, References, Sizes, Whole}
use Rattle.git_host.specs.declared.host_server.HostServer.{HostServer}
use Rattle.git_host.specs.declared.host_server.Phase.TheVariants.{Answering}
use Rattle.git_host.specs.declared.references_answer.ReferencesAnswer.{ReferencesAnswer}
use Rattle.git_host.specs.declared.references_answer.Reported.{Reported}
use Rattle.git_host.specs.declared.report.HostReported.{HostReported}
use Rattle.git_host.specs.declared.report.HostReported.TheVariants.{Packet, Taken, Hidden, NotAsked, MixedFormats, Unsorted, HeadTwice, NotShallow, OutOfMemory}
use Rattle.git_host.specs.declared.report.ReferenceFault.{ReferenceFault}
use Rattle.git_host.specs.declared.report.ReferenceFault.TheVariants.{BadObjectName, BadRefName, OutOfMemory as NoMemory}
use Rattle.git_host.specs.declared.report.Report.{Report}
use Rattle.git_host.specs.declared.report.Report.TheVariants.{Reference}
use Rattle.git_host.proofs.EntryLines.{spelled_entry, spells_entry}
use Rattle.git_host.proofs.HostAnswerMoves.{reference_reported}
use Rattle.git_host.proofs.HostAnswering.{not_asked}

module _ {A : Type 0} where
  -- the answer for references takes it
  pub reference_taken : (a b : ReferencesAnswer A) (old : HostAnswer A) (format : Format) (name : List ℕ) (reported : Reported) (r : HostReported)
      (taken : Result Reported ReferenceFault) → old ≡ References a → r ≡ reported_as reported → taken ≡ Ok reported
      → AnswerTakes format name a taken b → TakesReference format name old (Ok r) (References b)
  reference_taken a b old format name reported r taken was is ok done =
      let (named, does) = subst (λ (x : Result Reported ReferenceFault). AnswerTakes format name a x b) ok done in (
        named,
        λ entry same names of_format.
            subst (λ (o : HostAnswer A). ReportsBy (Reference entry) old r (spelling_of (reference_packet (asks_symrefs o) (asks_peel o) entry)) (References b))
            (sym was)
            (reference_reported a b old entry reported r (spelling_of (reference_packet (symrefs_of a) (peel_of a) entry)) was is
            (does entry same names of_format)),
      )

  -- or refuses it
  pub reference_refused : (a b : ReferencesAnswer A) (old : HostAnswer A) (format : Format) (name : List ℕ) (fault : ReferenceFault)
      (taken : Result Reported ReferenceFault) → old ≡ References a → taken ≡ Err fault → AnswerTakes format name a taken b
      → TakesReference format name old (Err fault) (References b)
  reference_refused a b old format name fault taken was err done =
      let (refused, same) = subst (λ (x : Result Reported ReferenceFault). AnswerTakes format name a x b) err done in
      (refused, ap References same ∙ sym was)

  -- the bytes matter only if they are a packet
  pub written_report : (report : Report) (a b : HostAnswer A) (r : HostReported) (bytes held : List ℕ) → (r ≡ Packet → held ≡ bytes)
      → ReportsBy report a r bytes b → ReportsBy report a r held b
  written_report report a b Packet bytes held is done = subst (λ (l : List ℕ). ReportsBy report a Packet l b) (sym (is refl)) done
  written_report report a b Taken bytes held is done = done
  written_report report a b Hidden bytes held is done = done
  written_report report a b NotAsked bytes held is done = done
  written_report report a b MixedFormats bytes held is done = done
  written_report report a b Unsorted bytes held is done = done
  written_report report a b HeadTwice bytes held is done = done
  written_report report a b NotShallow bytes held is done = done
  written_report report a b OutOfMemory bytes held is done = done

  -- where no reference is asked for, only the texts are looked at
  pub texts_unasked : (old : HostServer A) (texts : Texts) (digits : List ℕ) (peeled : Option (List ℕ)) (r : Result HostReported ReferenceFault)
      → SpellsId old.offer.format texts.digits digits → AreAttributes old.offer.format texts.target texts.peeled peeled
      → ((answer : HostAnswer A) → old.phase ≡ Answering answer → ⊥)
      → MatchResult r (λ reported. (reported ≡ NotAsked) × IsRefName texts.name) (λ fault. (fault ≡ BadRefName) × ¬ IsRefName texts.name)
      → ReportsTexts texts old r old
  texts_unasked old texts digits peeled (Ok reported) spells attributes other h =
      let entry = spelled_entry old.offer.format texts digits peeled spells attributes in (
        entry,
        spells_entry old.offer.format texts digits peeled spells attributes h.1,
        subst (λ (x : HostReported). ReportsHost (Reference entry) old x old) (sym h.0) (not_asked (Reference entry) old other),
      )
  texts_unasked old texts digits peeled (Err fault) spells attributes other h =
      (subst (λ (f : ReferenceFault). RefusesTexts old.offer.format texts f) (sym h.0) ((spells.id, spells.named), inl h.1), refl)

  -- a name that is refused is refused as one of these texts
  pub name_refused : (old : HostServer A) (texts : Texts) (digits : List ℕ) (peeled : Option (List ℕ)) (fault : ReferenceFault)
      → SpellsId old.offer.format texts.digits digits → AreAttributes old.offer.format texts.target texts.peeled peeled → RefusesName fault texts.name
      → RefusesTexts old.offer.format texts fault
  name_refused old texts digits peeled BadRefName spells attributes bad = ((spells.id, spells.named), inl bad)
  name_refused old texts digits peeled NoMemory spells attributes named = (
    spelled_entry old.offer.format texts digits peeled spells attributes,
    spells_entry old.offer.format texts digits peeled spells attributes named,
  )
  name_refused old texts digits peeled BadObjectName spells attributes none = absurd none

  -- and nothing changes
  pub texts_refused : (old new : HostServer A) (texts : Texts) (r : Result HostReported ReferenceFault) (fault : ReferenceFault)
      → IsErrAnd r (λ why. why ≡ fault) → RefusesTexts old.offer.format texts fault → new ≡ old → ReportsTexts texts old r new
  texts_refused old new texts (Ok reported) fault by refused same = absurd by
  texts_refused old new texts (Err why) fault by refused same =
      (subst (λ (f : ReferenceFault). RefusesTexts old.offer.format texts f) (sym by) refused, same)

  -- so are a target and a peeled object
  pub attributes_refused : (old : HostServer A) (texts : Texts) (digits : List ℕ) (fault : ReferenceFault) → SpellsId old.offer.format texts.digits digits
      → RefusesAttributes old.offer.format texts.target texts.peeled fault → IsRefName texts.name → RefusesTexts old.offer.format texts fault
  attributes_refused old texts digits BadRefName spells bad named = ((spells.id, spells.named), inr (named, bad))
  attributes_refused old texts digits BadObjectName spells bad named =
      inr ((spells.id, spells.named), record { by_name = named; by_target = bad.0 }, bad.1)
  attributes_refused old texts digits NoMemory spells bad named = absurd bad

-- memory is not what refuses a name that was not asked for
pub unasked_memory : (name : List ℕ) (r : Result HostReported ReferenceFault)
    → MatchResult r (λ reported. (reported ≡ NotAsked) × IsRefName name) (λ fault. (fault ≡ BadRefName) × ¬ IsRefName name)
    → r ≡ Err NoMemory → ⊥
unasked_memory name (Ok reported) h is = cc is
unasked_memory name (Err fault) h is = let bad = h.0 in let same : fault ≡ NoMemory = cc is in cc (bad, same)

pub unasked_never : (name : List ℕ) (r : Result HostReported ReferenceFault)
    → MatchResult r (λ reported. (reported ≡ NotAsked) × IsRefName name) (λ fault. (fault ≡ BadRefName) × ¬ IsRefName name)
    → r ≡ Ok OutOfMemory → ⊥
unasked_never name (Ok reported) h is = let unasked = h.0 in let same : reported ≡ OutOfMemory = cc is in cc (unasked, same)
unasked_never name (Err fault) h is = cc is

-- nor what comes of a reference
module _ {A : Type 0} where
  no_reason : (entry : Entry) (a : HostAnswer A) → IsReason (Reference entry) a OutOfMemory → ⊥
  no_reason entry (Admission answer) h = h
  no_reason entry (Fetch answer) h = h
  no_reason entry (References answer) h = h
  no_reason entry (Sizes answer) h = h
  no_reason entry Whole h = h

  pub no_memory : (entry : Entry) (a b : HostAnswer A) (r : HostReported) (bytes : List ℕ) → ReportsBy (Reference entry) a r bytes b → r ≡ OutOfMemory → ⊥
  no_memory entry a b r bytes done is =
      no_reason entry a (subst (λ (x : HostReported). ReportsBy (Reference entry) a x bytes b) is done).1
