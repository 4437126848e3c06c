use Rattle.std.proofs.Common.{◌≡◌, All, [], ◌∷◌, ◌++◌, codes, false, length, length-append, refl, ap, sym, subst, arith}
use Rattle.std.specs.Fmt.{digits}
use Rattle.std.proofs.lemmas.List.Elements.{All-cons, All-nil}
use Rattle.git_names.specs.Digits.{lower_digit}
use Rattle.git_pkt.specs.Escape.{escape_of}
use Rattle.git_msg.specs.Asked.{Asked, HasValues, ls_refs}
use Rattle.git_msg.specs.Machine.HeldRequest.{asked_of, format_of}
use Rattle.git_msg.specs.declared.requests.Request.{Request}
use Rattle.git_server.specs.Repository.{IsSound}
use Rattle.git_laws.specs.AnnouncedAnswers.{CanBeWritten}
use Rattle.git_rows.specs.Worked.{asked_with}
use Rattle.git_rows.specs.WorkedConversations.{terms}
use Rattle.git_rows.specs.WorkedRuns.{bare_repo, bare_state, offer_transcript}
use Rattle.git_rows.proofs.runs.plays_that_ended_well.Goals as goal

sound : IsSound bare_repo
sound = record {
  rising = λ k entry within. absurd (omega (arith, within));
  named = All-nil _;
  of_format = All-nil _;
  unborn = λ target e. absurd (cc);
  boundaries_of_format = λ request. All-nil _;
  unshallow = λ request. All-nil _;
}

written : CanBeWritten bare_repo
written = record { refs = All-nil _; boundaries = λ q. All-nil _; sizes = λ id size e. absurd (cc) }

-- a request without arguments has no values
own_values : {A : Type 0} (request : Request A) → asked_of request ≡ ls_refs (asked_with false false [])
    → All (λ (r : Request A). HasValues (format_of r) (asked_of r)) (request ∷ [])
own_values {A} request asked =
    All-cons (λ (r : Request A). HasValues (format_of r) (asked_of r)) request []
    (subst (λ (q : Asked). HasValues (format_of request) q) (sym asked) (record { allowed = All-nil _; in_order = refl })) (All-nil _)

pub returns-clause-nothing_asked : goal.returns-clause-nothing_asked
unfolding escape_of lower_digit
returns-clause-nothing_asked g c = λ given played.
    c.played_as_answered.ensures.announced 0 terms 0 bare_state [] tt [] given played sound written refl (All-nil _)

pub returns-clause-references_asked : goal.returns-clause-references_asked
unfolding digits escape_of lower_digit
returns-clause-references_asked g c = λ request given asked played.
    rw asked at (c.played_as_answered.ensures.announced 0 terms 0 bare_state (request ∷ []) tt [] given played sound written refl (own_values request asked))

pub returns-clause-not_unanswered : goal.returns-clause-not_unanswered
unfolding digits escape_of lower_digit
returns-clause-not_unanswered g c = λ request asked played.
    let given = offer_transcript ∷ [] ∷ [] in
    let more = codes "request ls-refs\nend 0 0\n" in
    let just : given ≡ (offer_transcript ++ more) ∷ [] ∷ [] =
    rw asked at (c.played_as_answered.ensures.announced 0 terms 0 bare_state (request ∷ []) tt [] given played sound written refl (own_values request asked)) in
    let head : offer_transcript ≡ offer_transcript ++ more = cc in
    omega (arith, ap length head, length-append offer_transcript more)

pub returns-clause-not_with_a_pack : goal.returns-clause-not_with_a_pack
unfolding escape_of lower_digit
returns-clause-not_with_a_pack g c = λ played.
    let given = offer_transcript ∷ codes "PACK" ∷ [] in
    let just : given ≡ offer_transcript ∷ []
    ∷ [] = c.played_as_answered.ensures.announced 0 terms 0 bare_state [] tt [] given played sound written refl (All-nil _) in
    cc
