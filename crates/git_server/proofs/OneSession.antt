-- What was asked by the bytes that a server used, and how it is answered, is one thing: so a server that has given all
-- of it has nothing to send.
use Rattle.std.proofs.Common.{◌≡◌, ℕ, drop, map, codes, Bool, true, false, if◌then◌else◌, Option, Some, List, [], ◌∷◌}
use Rattle.std.proofs.Common.{◌↔◌, IsTrue, ◌++◌, length, length-append, None, refl, sym, ap, ◌∙◌, subst, arith}
use Rattle.git_pkt.specs.Digits.{digits_of}
use Rattle.git_pkt.specs.Packets.{Pkt, flush, flushes, body_of, length_field, spelling_of}
use Rattle.git_pkt.proofs.Spelling.{same_start}
use Rattle.git_pkt.proofs.Written.{spells_written}
use Rattle.git_pkt.specs.Splits.{Given}
use Rattle.git_pkt.proofs.Streams.{one_split}
use Rattle.git_msg.specs.declared.offers.Offer.{Offer}
use Rattle.git_msg.specs.Asked.{Asked, ls_refs, fetch, object_info, oids_in, ref_prefixes_in, peel_in, symrefs_in}
use Rattle.git_msg.specs.References.{reference_text}
use Rattle.git_msg.specs.ResponseLines.{info_text}
use Rattle.git_msg.specs.WrittenRequest.{text_line}
use Rattle.git_names.specs.ObjectName.{ObjectName}
use Rattle.git_msg.specs.WholeRequests.{AreRequests}
use Rattle.git_msg.proofs.WholeRequests.{NoFlush, NoRequest, none_without_flush, one_list_of_requests}
use Rattle.git_server.specs.Repository.{Entry, Repository, RepoState}
use Rattle.git_server.specs.Machine.AnsweredRequest.{references_from, sizes_from}
use Rattle.git_server.specs.Answers.{AllFit, asks_for_unborn, offered_line, reference_packets, shown_line, shown_refs, spelled, unborn_packet}
use Rattle.git_server.specs.Answers.{unborn_packets, IsAnswer}
use Rattle.git_server.specs.Machine.AdvertisementLines.{format_on, advertisement_from}
use Rattle.git_server.specs.declared.advertisement.AdvertisementLine.TheVariants.{Version, Agent, LsRefs, Fetch, ServerOption, ObjectFormat, ObjectInfo, End}
use Rattle.git_server.specs.Sessions.{Setting, IsRequest, AreAnswers, IsAnswered, advertised}
use Rattle.git_server.specs.Machine.Phases.{outcome_in, AreUnsent, reads_in}
use Rattle.git_server.specs.Machine.Server.{Running, outcome_of, wants_input}
use Rattle.git_server.specs.declared.advertisement.AdvertisementLine.{AdvertisementLine}
use Rattle.git_server.specs.declared.answer.Answer.TheVariants.{References, Fetching, Sizes}
use Rattle.git_server.specs.declared.ls_refs.ReferencesPlace.{ReferencesPlace}
use Rattle.git_server.specs.declared.ls_refs.ReferencesPlace.TheVariants.{First, Entry as EntryPlace}
use Rattle.git_server.specs.declared.object_info.SizesPlace.{SizesPlace}
use Rattle.git_server.specs.declared.object_info.SizesPlace.TheVariants.{Header as SizesHeader, Object}
use Rattle.git_server.specs.declared.server.Phase.{Phase}
use Rattle.git_server.specs.declared.server.Phase.TheVariants.{Advertising, Between, Within, Answering, Refusing, Ended}
use Rattle.git_server.specs.declared.server.Server.{Server}
use Rattle.git_server.proofs.Flushes.{flushes-append}
use Rattle.git_server.proofs.FetchPackets.{fetch_ends_once, fetch_ends_later}
use Rattle.git_server.proofs.Begun.{begun_has_no_flush}
use Rattle.git_server.proofs.Sent.{is_whole}
use Rattle.git_server.proofs.Going.{goes_on, no_outcome, nothing_unsent, some_unsent}
use Rattle.git_msg.specs.Arguments.{Arg}

module _ (s : Setting) where
  pub no_request : (left : List Given) → NoFlush left → NoRequest (IsRequest s) left
  no_request = none_without_flush s.offer s.limit (IsRequest s) (λ front q is. (is.0, is.1))

  -- packets ask for one list of requests
  pub one_list : (packets : List Given) (asked others : List Asked) (left rest : List Given) → NoRequest (IsRequest s) left → NoRequest (IsRequest s) rest
      → AreRequests (IsRequest s) packets asked left → AreRequests (IsRequest s) packets others rest → (asked ≡ others) × (left ≡ rest)
  one_list = one_list_of_requests s.offer s.limit (IsRequest s) (λ front q is. (is.0, is.1))

-- lines and a flush after them are one flush
lines_have_none : {X : Type 0} (text : X → List ℕ) (xs : List X) → flushes (map (λ x. text_line (text x)) xs) ≡ 0
lines_have_none text [] = refl
lines_have_none text (x ∷ xs) = lines_have_none text xs

ends_once : {X : Type 0} (text : X → List ℕ) (xs : List X) → flushes (map (λ x. text_line (text x)) xs ++ flush ∷ []) ≡ 1
ends_once text xs = omega (arith, flushes-append (map (λ x. text_line (text x)) xs) (flush ∷ []), lines_have_none text xs)

refs_end : (symrefs peel : Bool) (refs : List Entry)
    → flushes (map (λ entry. text_line (reference_text (shown_line symrefs peel entry))) refs ++ flush ∷ []) ≡ 1
refs_end symrefs peel refs = ends_once (λ entry. reference_text (shown_line symrefs peel entry)) refs

unborn_has_none : (target : List ℕ) (asked : Bool) → flushes (if asked then unborn_packet target ∷ [] else []) ≡ 0
unborn_has_none target true = refl
unborn_has_none target false = refl

unborn_have_none : (q : List Arg) (head : Option (List ℕ)) → flushes (unborn_packets q head) ≡ 0
unborn_have_none q None = refl
unborn_have_none q (Some target) = unborn_has_none target (asks_for_unborn q)

-- from each place on an answer for references has one flush
references_end : (q : List Arg) (repo : Repository) (place : ReferencesPlace) → flushes (references_from q repo place) ≡ 1
references_end q repo First =
    let split = flushes-append (unborn_packets q repo.unborn_head) (reference_packets q repo.refs) in
    omega (arith, split, unborn_have_none q repo.unborn_head, refs_end (symrefs_in q) (peel_in q) (shown_refs (ref_prefixes_in q) repo.refs))
references_end q repo (EntryPlace next) = refs_end (symrefs_in q) (peel_in q) (shown_refs (ref_prefixes_in q) (drop next repo.refs))

infos_end : (repo : Repository) (ids : List ObjectName)
    → flushes (map (λ id. text_line (info_text (record { id = id; size = repo.object_size id }))) ids ++ flush ∷ []) ≡ 1
infos_end repo ids = ends_once (λ id. info_text (record { id = id; size = repo.object_size id })) ids

sizes_end : (q : List Arg) (repo : Repository) (place : SizesPlace) → flushes (sizes_from q repo place) ≡ 1
sizes_end q repo SizesHeader = infos_end repo (oids_in q)
sizes_end q repo (Object next) = infos_end repo (drop next (oids_in q))

-- an answer has one flush
pub answer_ends : (repo : Repository) (q : Asked) (answer : List Pkt) → IsAnswer repo q answer → flushes answer ≡ 1
answer_ends repo (ls_refs q) answer h = ap flushes h ∙ references_end q repo First
answer_ends repo (object_info q) answer h = ap flushes h ∙ sizes_end q repo SizesHeader
answer_ends repo (fetch q) answer h = fetch_ends_once repo q answer h

pub answers_end : (repo : Repository) (asked : List Asked) (packets : List Pkt) → AreAnswers repo asked packets → flushes packets ≡ length asked
answers_end repo [] packets h = ap flushes h
answers_end repo (q ∷ qs) packets (answer, more, e, is, later) =
    omega (arith, ap flushes e, flushes-append answer more, answer_ends repo q answer is, answers_end repo qs more later)

-- packets are spelled in one way
pub one_spelling : (ps qs : List Pkt) → AllFit ps → AllFit qs → spelled ps ≡ spelled qs → ps ≡ qs
one_spelling [] [] h k e = refl
one_spelling [] (q ∷ qs) h k e = absurd
    (omega (arith, ap length e, length-append (spelling_of q) (spelled qs), length-append (digits_of (length_field q)) (body_of q)))
one_spelling (p ∷ ps) [] h k e = absurd
    (omega (arith, ap length e, length-append (spelling_of p) (spelled ps), length-append (digits_of (length_field p)) (body_of p)))
one_spelling (p ∷ ps) (q ∷ qs) h k e =
    let same = same_start p q (spelling_of p) (spelling_of q) (spelled ps) (spelled qs) (spells_written p h.0) (spells_written q k.0) e in
    ap (λ (x : Pkt). x ∷ ps) same.packet ∙ ap (λ (xs : List Pkt). q ∷ xs) (one_spelling ps qs h.1 k.1 same.rest)

-- where something is pending, a flush is
info_is_unsent : (b : Bool) → flushes (offered_line b (codes "object-info") ++ flush ∷ []) ≡ 1
info_is_unsent true = refl
info_is_unsent false = refl

option_is_unsent : (offer : Offer) (b : Bool) → flushes (offered_line b (codes "server-option") ++ format_on offer) ≡ 1
option_is_unsent offer true = info_is_unsent offer.object_info
option_is_unsent offer false = info_is_unsent offer.object_info

pub line_is_unsent : (offer : Offer) (line : AdvertisementLine) → flushes (advertisement_from offer line) ≡ 1
line_is_unsent offer End = refl
line_is_unsent offer ObjectInfo = refl
line_is_unsent offer ObjectFormat = info_is_unsent offer.object_info
line_is_unsent offer ServerOption = info_is_unsent offer.object_info
line_is_unsent offer Fetch = option_is_unsent offer offer.server_option
line_is_unsent offer LsRefs = option_is_unsent offer offer.server_option
line_is_unsent offer Agent = option_is_unsent offer offer.server_option
line_is_unsent offer Version = option_is_unsent offer offer.server_option

pub flush_unsent : {A : Type 0} (offer : Offer) (repo : Repository) (phase : Phase A) (unsent : List Pkt) → outcome_in phase ≡ None
    → AreUnsent offer repo phase unsent
    → flushes unsent ≡ 0 → reads_in phase ≡ true
flush_unsent offer repo Between unsent none has_unsent zero = refl
flush_unsent offer repo Within unsent none has_unsent zero = refl
flush_unsent offer repo (Advertising line) unsent none has_unsent zero = absurd (omega (arith, zero, ap flushes has_unsent, line_is_unsent offer line))
flush_unsent offer repo (Answering (References request place) offset) unsent none has_unsent zero =
    absurd (omega (arith, zero, ap flushes has_unsent, references_end request.asked repo place))
flush_unsent offer repo (Answering (Fetching request place) offset) unsent none has_unsent zero =
    absurd (omega (arith, zero, fetch_ends_later repo request.asked place unsent has_unsent))
flush_unsent offer repo (Answering (Sizes request place) offset) unsent none has_unsent zero =
    absurd (omega (arith, zero, ap flushes has_unsent, sizes_end request.asked repo place))
flush_unsent offer repo (Refusing fault) unsent none has_unsent zero = absurd (cc)
flush_unsent offer repo (Ended outcome) unsent none has_unsent zero = absurd (cc)

-- so a server waits for bytes exactly where it has no outcome and nothing is pending
pub waits_where_none_unsent : {A : Type 0} (offer : Offer) (repo : Repository) (phase : Phase A)
    → IsTrue (reads_in phase) ↔ ((outcome_in phase ≡ None) × AreUnsent offer repo phase [])
waits_where_none_unsent offer repo phase = (
  λ reads. (no_outcome phase reads, nothing_unsent offer repo phase reads),
  λ h. flush_unsent offer repo phase [] h.0 h.1 refl,
)

module _ {R A : Type 0} (state : R → RepoState) (server : Server R A) (s : Setting) (used : List ℕ)
    (over : Bool) (given : List ℕ) (r : Running state s used over given server) where
  -- a server without an outcome that has given all waits for bytes
  pub waits_behind_all : outcome_of server ≡ None → IsAnswered s used given → wants_input server ≡ true
  waits_behind_all none all =
      let h = (goes_on state server s used over given none r).1 in
      let split = one_split 0 used h.packets all.stream.packets h.rest all.rest h.reads.splits.spelled
      all.stream.splits.spelled h.reads.splits.ends all.stream.splits.ends in
      let asked : h.asked ≡ all.asked =
      (one_list s all.stream.packets h.asked all.asked h.left all.left (no_request s h.left (begun_has_no_flush s h.left h.begins))
      (no_request s all.left (begun_has_no_flush s all.left all.begins))
      (subst (λ (gs : List Given). AreRequests (IsRequest s) gs h.asked h.left) split.packets h.requests) all.stream.requests).0 in
      let (unsent, has_unsent) = some_unsent server.offer s.repo server.phase in
      let whole = is_whole s h.asked h.sent unsent (h.is_sent unsent has_unsent) in
      let sent : h.sent ≡ advertised s ++ all.answers = one_spelling h.sent (advertised s ++ all.answers) h.fit all.fit (sym h.given_is ∙ all.given_is) in
      let both = ap flushes whole.parts in
      let split_both = flushes-append h.sent unsent in
      let split_whole = flushes-append (advertised s) whole.answers in
      let split_all = ap flushes sent ∙ flushes-append (advertised s) all.answers in
      let same = answers_end s.repo h.asked whole.answers whole.answered ∙ ap length asked ∙ sym (answers_end s.repo all.asked all.answers all.answered) in
      flush_unsent server.offer s.repo server.phase unsent none has_unsent (omega (arith, both, split_both, split_whole, split_all, same))
