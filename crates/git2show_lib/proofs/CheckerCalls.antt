-- The calls of a machine that judges a conversation: what it needs, and the lines that it lends.
use Rattle.std.proofs.Common.{◌≡◌, ◌≢◌, ◌==◌, ℕ, Bool, true, false, List, [], ◌∷◌, ◌++◌, length, take, IsSome, None, Some}
use Rattle.std.proofs.Common.{refl, sym, subst, ap, ◌∙◌, append_assoc, append-nil}
use Rattle.git_client.specs.Parts.{Terms}
use Rattle.git_client.specs.Machine.Client.{Converses, nothing_yet, wants_input}
use Rattle.git_client.specs.Machine.RunSteps.{no_counts}
use Rattle.git_client.specs.declared.client.Client.{Client}
use Rattle.git_client.specs.declared.receiving.Counts.{Counts}
use Rattle.git_client.proofs.ReceivedBytes.{nothing_received}
use Rattle.git2show_lib.specs.Machine.Checker.{Carries, Checks, Fed, IsCheckOf, IsOpening, IsSieving, Leads, StandsIn, first_of, is_needed}
use Rattle.git2show_lib.specs.Machine.Checker.{is_opened, left_in, lent_by, needed_by, needed_in, needed_of, verdict_in, waiting_in}
use Rattle.git2show_lib.specs.Machine.CheckerTurns.{FitsTurn, IsSound, uses_no_more}
use Rattle.git2show_lib.specs.Machine.KeptLines.{noted_in}
use Rattle.git2show_lib.specs.Machine.Noting.{Gathers, HasNotedLines}
use Rattle.git2show_lib.specs.declared.checker.Checker.{Checker}
use Rattle.git2show_lib.specs.declared.checker.Needed.{Needed}
use Rattle.git2show_lib.specs.declared.checker.Needed.TheVariants.{Input}
use Rattle.git2show_lib.specs.declared.checker.Stream.{Stream}
use Rattle.git2show_lib.specs.declared.checker.Stream.TheVariants.{Requests as OfRequests, Responses as OfResponses}
use Rattle.git2show_lib.specs.declared.checker.Turn.{Turn}
use Rattle.git2show_lib.specs.declared.checker.Turn.TheVariants.{Opening, Request, Response, Sieved, Passing, End, Over}
use Rattle.git2show_lib.specs.declared.noting.Noting.{Noting}
use Rattle.git2show_lib.specs.declared.other_lines.OtherLines.{OtherLines}
use Rattle.git2show_lib.proofs.CheckerStands.{check_of, fits_in, none_wait, still_open}
use Rattle.git2show_lib.proofs.CheckerSteps.{nothing_gathered}

-- ---- lines that are lent and taken

-- where some are lent, some wait
some_behind : (lines others : List ℕ) → first_of lines others ≢ [] → lines ++ others ≢ []
some_behind [] others some = some
some_behind (byte ∷ lines) others some = λ none. absurd (cc)

-- those that are not known were taken: what was lent and what waits is the same
moved_others : (lent lines others after : List ℕ) → lines ≡ [] → after ≡ []
    → lent ++ (lines ++ others) ≡ (lent ++ first_of lines others) ++ (lines ++ after)
moved_others lent lines others after none empty = rw (none, empty) (sym (append-nil (lent ++ others)))

-- or those that were gathered
moved_gathered : (lent lines others after : List ℕ) → lines ≢ [] → after ≡ []
    → lent ++ (lines ++ others) ≡ (lent ++ first_of lines others) ++ (after ++ others)
moved_gathered lent [] others after some empty = absurd (some refl)
moved_gathered lent (byte ∷ lines) others after some empty = rw empty (sym (append_assoc lent (byte ∷ lines) others))

-- the first byte of some
pub first_taken : (chunk : List ℕ) → (length chunk == 0) ≡ false → (byte : ℕ) × (take 1 chunk ≡ byte ∷ [])
first_taken [] some = absurd (cc)
first_taken (byte ∷ chunk) some = (byte, refl)

-- a turn needs one stream
pub same_stream : (turn : Turn) (from stream : Stream) → needed_in turn ≡ Input from → needed_in turn ≡ Input stream → from ≡ stream
same_stream turn from stream is known = cc

needs_requests : (turn : Turn) → needed_in turn ≡ Input OfRequests → turn ≡ Request
needs_requests Request is = refl
needs_requests turn is = absurd (cc)

unless_so : (so : Bool) → (so ≡ true → ⊥) → so ≡ false
unless_so false never = refl
unless_so true never = absurd (never refl)

-- bytes of the stream are needed, and nothing else
pub needed_is : (from : Stream) (needed : Needed) → is_needed from needed ≡ true → needed ≡ Input from
needed_is OfRequests (Input OfRequests) is = refl
needed_is OfResponses (Input OfResponses) is = refl
needed_is from needed is = absurd (cc)

-- a verdict is on both streams
pub over_in : (turn : Turn) (stream : Stream) → IsSome (verdict_in turn) → uses_no_more stream turn ≡ true
over_in (Over result) OfRequests is = refl
over_in (Over result) OfResponses is = refl
over_in turn stream is = absurd (cc)

-- where requests are needed, bytes of both streams may be needed later
pub none_done : (turn : Turn) (stream : Stream) → needed_in turn ≡ Input OfRequests → uses_no_more stream turn ≡ true → ⊥
none_done Opening stream needs done = absurd (cc)
none_done Request OfRequests needs done = absurd (cc)
none_done Request OfResponses needs done = absurd (cc)
none_done Response stream needs done = absurd (cc)
none_done (Sieved start) stream needs done = absurd (cc)
none_done Passing stream needs done = absurd (cc)
none_done End stream needs done = absurd (cc)
none_done (Over result) stream needs done = absurd (cc)

module _ {A : Type 0} where
  -- ---- what is needed

  none_lent : (c : Checker A) (lines : List ℕ) (from : Stream) → needed_by c lines ≡ Input from → lines ≡ []
  none_lent c [] from is = refl
  none_lent c (byte ∷ lines) from is = absurd (cc)

  -- where bytes are needed, the turn needs them
  pub needs : (c : Checker A) (from : Stream) → needed_of c ≡ Input from → needed_in c.turn ≡ Input from
  needs c from is = subst (λ (lines : List ℕ). needed_by c lines ≡ Input from) (none_lent c (lent_by c) from is) is

  -- and no line waits
  pub quiet : (c : Checker A) (from : Stream) → needed_of c ≡ Input from → waiting_in c ≡ []
  quiet c from is = none_wait c.lines (noted_in c.others).lines (none_lent c (lent_by c) from is)

  -- so what was used is of the stream that the turn needs
  pub leads_of : (old new : Checker A) (step : Fed → Fed) (from stream : Stream) → needed_of old ≡ Input from → needed_in old.turn ≡ Input stream
      → Leads stream step old new → Leads from step old new
  leads_of old new step from stream is known leads =
      subst (λ (s : Stream). Leads s step old new) (sym (same_stream old.turn from stream (needs old from is) known)) leads

  -- requests are needed only before one, or in one
  needs_a_request : (c : Checker A) → is_needed OfRequests (needed_of c) ≡ true → c.turn ≡ Request
  needs_a_request c needed = needs_requests c.turn (needs c OfRequests (needed_is OfRequests (needed_of c) needed))

  -- and so where the advertisement is whole
  pub opened_where_needed : (c : Checker A) → is_needed OfRequests (needed_of c) ≡ true → is_opened c ≡ true
  opened_where_needed c needed = (fits_in c Request (needs_a_request c needed)).0

  -- a stream that has ended is not needed
  ended_requests : (c : Checker A) → c.requests_ended ≡ true → is_needed OfRequests (needed_of c) ≡ false
  ended_requests c ended = unless_so (is_needed OfRequests (needed_of c)) (λ needed.
      let not_ended = (fits_in c Request (needs_a_request c needed)).1 in absurd (cc))

  ended_responses : (c : Checker A) → c.responses_ended ≡ true → is_needed OfResponses (needed_of c) ≡ false
  ended_responses c ended = unless_so (is_needed OfResponses (needed_of c)) (λ needed.
      let needs_them = needs c OfResponses (needed_is OfResponses (needed_of c) needed) in
      let not_ended = still_open c c.turn refl (λ nothing. absurd (cc)) in absurd (cc))

  pub closed_requests : (t : Terms) (limit : ℕ) (requests responses : Fed) (lent : List ℕ) (c : Checker A) → Checks t limit requests responses lent c
      → requests.closed ≡ true → is_needed OfRequests (needed_of c) ≡ false
  closed_requests t limit requests responses lent c k closed = ended_requests c (k.requests_closed ∙ closed)

  pub closed_responses : (t : Terms) (limit : ℕ) (requests responses : Fed) (lent : List ℕ) (c : Checker A) → Checks t limit requests responses lent c
      → responses.closed ≡ true → is_needed OfResponses (needed_of c) ≡ false
  closed_responses t limit requests responses lent c k closed = ended_responses c (k.responses_closed ∙ closed)

  -- no bytes of a stream were used
  pub nothing_used : (c : Checker A) (from : Stream) → Carries from [] c c
  nothing_used c OfRequests t limit requests responses lent k =
      subst (λ (l : List ℕ). Checks t limit (record { bytes = l; closed = requests.closed }) responses lent c) (sym (append-nil requests.bytes)) k
  nothing_used c OfResponses t limit requests responses lent k =
      subst (λ (l : List ℕ). Checks t limit requests (record { bytes = l; closed = responses.closed }) lent c) (sym (append-nil responses.bytes)) k

  -- ---- before the first byte

  pub opens : {t : Terms} {limit : ℕ} (client : Client A) (counts : Counts) (notes : Noting A) (lines : List ℕ) (others : OtherLines A)
      → Converses t nothing_yet client → wants_input client ≡ true → counts ≡ no_counts → HasNotedLines [] notes → Gathers notes → lines ≡ []
      → (noted_in others).lines ≡ [] → IsOpening t limit [] (lines ++ (noted_in others).lines) client counts notes
  opens client counts notes lines others anew waits none noted gathers no_lines no_others = record {
    first = client;
    anew = anew;
    first_waits = waits;
    bytes = rw (none, no_lines, no_others) (nothing_received client no_counts (Some []) None None waits);
    waits = waits;
    noted = noted;
    gathers = gathers;
  }

  -- ---- lines are taken

  pub some_wait : (c : Checker A) → lent_by c ≢ [] → waiting_in c ≢ []
  some_wait c some = some_behind c.lines (noted_in c.others).lines some

  abbrev Sound : Checker A → Type 0
  Sound c = IsSound c.turn c.client c.noting c.requests c.packets c.received c.hold.items

  abbrev Fits : Checker A → Type 0
  Fits c = FitsTurn c.turn c.opened c.requests_ended c.responses_ended

  -- what was lent was taken: what waits now is what is left of what waited
  pub record IsTaken (old new : Checker A) : Type 0 where
    pub lines : List ℕ
    pub others : OtherLines A
    pub sound : Sound old
    pub fits : Fits old
    pub is : new ≡ record old { lines = lines; others = others; sound = sound; fits = fits }
    pub moved : (lent : List ℕ) → lent ++ waiting_in old ≡ (lent ++ lent_by old) ++ (lines ++ (noted_in others).lines)
    pub some : lines ++ (noted_in others).lines ≢ [] → waiting_in old ≢ []

  pub taken_others : (old new : Checker A) (others : OtherLines A) (sound : Sound old) (fits : Fits old)
      → new ≡ record old { others = others; sound = sound; fits = fits } → old.lines ≡ [] → (noted_in others).lines ≡ [] → IsTaken old new
  taken_others old new others sound fits is none empty = record {
    lines = old.lines;
    others = others;
    sound = sound;
    fits = fits;
    is = is;
    moved = λ lent. moved_others lent old.lines (noted_in old.others).lines (noted_in others).lines none empty;
    some = λ more. absurd (more (rw (none, empty) refl));
  }

  pub taken_gathered : (old new : Checker A) (lines : List ℕ) (sound : Sound old) (fits : Fits old)
      → new ≡ record old { lines = lines; sound = sound; fits = fits } → old.lines ≢ [] → lines ≡ [] → IsTaken old new
  taken_gathered old new lines sound fits is some empty = record {
    lines = lines;
    others = old.others;
    sound = sound;
    fits = fits;
    is = is;
    moved = λ lent. moved_gathered lent old.lines (noted_in old.others).lines lines some empty;
    some = λ more none. some (nothing_gathered old.lines (noted_in old.others).lines none);
  }

  -- it stands as it did, with what is left of the lines
  stands_on : (t : Terms) (limit : ℕ) (requests responses : List ℕ) (turn : Turn) (c : Checker A) (lines : List ℕ) (others : OtherLines A)
      (sound : Sound c) (fits : Fits c) (after : List ℕ) → (lines ++ (noted_in others).lines ≢ [] → waiting_in c ≢ [])
      → ((start : ℕ) → turn ≡ Sieved start → lines ++ (noted_in others).lines ≡ [] → left_in c ≡ [])
      → StandsIn turn t limit requests responses after c
      → StandsIn turn t limit requests responses after (record c { lines = lines; others = others; sound = sound; fits = fits })
  stands_on t limit requests responses Opening c lines others sound fits after some left s = s
  stands_on t limit requests responses Request c lines others sound fits after some left s = (s.0, λ more. s.1 (some more))
  stands_on t limit requests responses Response c lines others sound fits after some left s = s
  stands_on t limit requests responses (Sieved start) c lines others sound fits after some left s = (s.0, λ none. left start refl none)
  stands_on t limit requests responses Passing c lines others sound fits after some left s = s
  stands_on t limit requests responses End c lines others sound fits after some left s = s
  stands_on t limit requests responses (Over result) c lines others sound fits after some left s = s

  module _ {t : Terms} {limit : ℕ} {requests responses : Fed} where
    -- where some wait, or no packet is sieved, that is all
    pub checks_taken : {old new : Checker A} {lent : List ℕ} (taken : IsTaken old new)
        → ((start : ℕ) → new.turn ≡ Sieved start → waiting_in new ≡ [] → ⊥) → Checks t limit requests responses lent old
        → Checks t limit requests responses (lent ++ lent_by old) new
    checks_taken {old} {new} {lent} taken unless k =
        subst (λ (c : Checker A). Checks t limit requests responses (lent ++ lent_by old) c) (sym taken.is) (record {
          terms = k.terms;
          limit_is = k.limit_is;
          requests_closed = k.requests_closed;
          responses_closed = k.responses_closed;
          stands = stands_on t limit requests.bytes responses.bytes old.turn old taken.lines taken.others taken.sound taken.fits _ taken.some
              (λ start is none. absurd (unless start (ap (λ (c : Checker A). c.turn) taken.is ∙ is)
              (ap (λ (c : Checker A). waiting_in c) taken.is ∙ none)))
              (subst (λ (l : List ℕ). StandsIn old.turn t limit requests.bytes responses.bytes l old) (taken.moved lent) k.stands);
        })

    -- or else the client receives what is left of a packet
    pub sieves_on : {old new : Checker A} {lent : List ℕ} (start : ℕ) (taken : IsTaken old new) → new.turn ≡ Sieved start
        → Checks t limit requests responses lent old
        → IsSieving t limit requests.bytes responses.bytes ((lent ++ lent_by old) ++ waiting_in new) (left_in new) new.client new.counts new.requests
        new.passed start new.sieve new.packets new.offset
    sieves_on {old} {new} {lent} start taken is k =
        let was : old.turn ≡ Sieved start = sym (ap (λ (c : Checker A). c.turn) taken.is) ∙ is in
        let stands : StandsIn (Sieved start) t limit requests.bytes responses.bytes (lent ++ waiting_in old) old =
        subst (λ (turn : Turn). StandsIn turn t limit requests.bytes responses.bytes (lent ++ waiting_in old) old) was k.stands in
        subst (λ (c : Checker A). IsSieving t limit requests.bytes responses.bytes ((lent ++ lent_by old) ++ waiting_in c) (left_in c) c.client c.counts
        c.requests c.passed start c.sieve c.packets c.offset) (sym taken.is)
        (subst (λ (l : List ℕ). IsSieving t limit requests.bytes responses.bytes l (left_in old) old.client old.counts old.requests old.passed start old.sieve
        old.packets old.offset) (taken.moved lent) stands.0)

    pub same_check : {old new : Checker A} {lent : List ℕ} → IsTaken old new → Checks t limit requests responses lent old
        → IsCheckOf t limit requests responses new
    same_check {old} {new} taken k = subst (λ (c : Checker A). IsCheckOf t limit requests responses c) (sym taken.is) (check_of k)
