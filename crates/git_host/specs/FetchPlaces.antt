-- How far an answer to `fetch` has come, by what was reported and what was sent.
use Rattle.std.specs.Prelude.{◌≡◌, ◌≢◌, ℕ, ◌<◌, ◌≤◌, Bool, true, false, not, List, [], ◌∷◌, ◌++◌, length, map, take, codes, Some, None}
use Rattle.git_names.specs.declared.object_format.Format.{Format}
use Rattle.git_pkt.specs.Packets.{Pkt, body_of, longest_payload, spelling_of}
use Rattle.git_msg.specs.declared.Boundary.{Boundary}
use Rattle.git_msg.specs.declared.flags.Flag.{Flag}
use Rattle.git_msg.specs.Arguments.{Arg}
use Rattle.git_msg.specs.Asked.{is_empty, only_negotiates, haves_in, shallows_in, want_refs_in, flag_among}
use Rattle.git_msg.specs.Kept.{Kept}
use Rattle.git_msg.specs.WrittenRequest.{text_line}
use Rattle.git_server.specs.Packs.{whole, broken, packfile_header}
use Rattle.git_server.specs.FetchAnswers.{ack_packet, boundary_packet, negotiates, shallow_info}
use Rattle.git_server.specs.Objects.{object_of}
use Rattle.git_server.specs.Repository.{IsUnshallowOf}
use Rattle.git_host.specs.FetchFacts.{AreParts, AreSoundFacts, FetchFacts, IsFetchAnswerOf, IsSoundFetchAnswer, acknowledgments, before_pack, opening}
use Rattle.git_host.specs.FetchFacts.{picked, readiness, wanted_lines}
use Rattle.git_host.specs.declared.fetch_answer.Place.{Place}
use Rattle.git_host.specs.declared.fetch_answer.Place.TheVariants.{Header, Have, Nak, Ready, Delimiter, Shallow, ShallowLine, WantedHeader, Wanted, WantedEnd}
use Rattle.git_host.specs.declared.fetch_answer.Place.TheVariants.{PackHeader, Pack, Whole as AtEnd, Broken as AtLoss}
use Rattle.git_host.specs.declared.fetch_answer.Step.{Step}
use Rattle.git_host.specs.declared.fetch_answer.Step.TheVariants.{Packet, AskHave, AskReady, AskBoundary, AskPack, Whole, Broken}
use Rattle.git_host.specs.declared.fetch_answer.BoundaryReported.{BoundaryReported}
use Rattle.git_host.specs.declared.fetch_answer.BoundaryReported.TheVariants as Line
use Rattle.git_host.specs.declared.fetch_answer.ProgressReported.{ProgressReported}
use Rattle.git_host.specs.declared.fetch_answer.ProgressReported.TheVariants as Progress
use Rattle.git_host.specs.declared.fetch_answer.BoundaryEnd.{BoundaryEnd}
use Rattle.git_host.specs.declared.fetch_answer.BoundaryEnd.TheVariants.{NotAsked, Absent, Packet as DelimGiven}
use Rattle.git_host.specs.declared.fetch_answer.FetchAnswer.{FetchAnswer}

-- nothing was reported of the pack
pub record NoPack (t : FetchFacts) : Type 0 where
  pub pack : t.pack ≡ []
  pub progress : t.progress ≡ []

-- nothing was reported of what comes after the acknowledgments
pub record NothingAfter (t : FetchFacts) : Type 0 where
  pub boundary : t.boundary ≡ []
  pub pack : t.pack ≡ []
  pub progress : t.progress ≡ []

-- the header of the acknowledgments
abbrev pub acks_header : Pkt
acks_header = text_line (codes "acknowledgments")

-- P holds if the request negotiates
abbrev pub WhereNegotiating : Bool → Type 0 → Type 0
WhereNegotiating true P = P
WhereNegotiating false P = Unit {0}

-- where it negotiates, each object that the client has was reported on, and the pack follows
abbrev pub IsOpened : List Arg → FetchFacts → Type 0
IsOpened q t = WhereNegotiating (negotiates q) ((length t.has ≡ length (haves_in q)) × (readiness q t ≡ Some true))

-- the section of the boundary, as far as its lines were reported
abbrev pub shallow_so_far : List Boundary → List Pkt
shallow_so_far [] = []
shallow_so_far (b ∷ bs) = text_line (codes "shallow-info") ∷ map boundary_packet (b ∷ bs)

pub record AtHeader (q : List Arg) (t : FetchFacts) (given : List Pkt) : Type 0 where
  pub negotiates : negotiates q ≡ true
  pub none : t.has ≡ []
  pub given_is : given ≡ []
  pub unreported : t.ready ≡ None
  pub after : NothingAfter t

-- the objects that the client has were reported on up to this place
pub record AtHave (next : ℕ) (any : Bool) (q : List Arg) (t : FetchFacts) (given : List Pkt) : Type 0 where
  pub negotiates : negotiates q ≡ true
  pub so_far : length t.has ≡ next
  pub more : next < length (haves_in q)
  pub some : is_empty (picked t.has (haves_in q)) ≡ not any
  pub given_is : given ≡ acks_header ∷ map ack_packet (picked t.has (haves_in q))
  pub unreported : t.ready ≡ None
  pub after : NothingAfter t

-- the store has none of them
pub record AtNak (q : List Arg) (t : FetchFacts) (given : List Pkt) : Type 0 where
  pub negotiates : negotiates q ≡ true
  pub all : length t.has ≡ length (haves_in q)
  pub none : picked t.has (haves_in q) ≡ []
  pub given_is : given ≡ acks_header ∷ []
  pub unreported : t.ready ≡ None
  pub after : NothingAfter t

pub record AtReady (q : List Arg) (t : FetchFacts) (given : List Pkt) : Type 0 where
  pub negotiates : negotiates q ≡ true
  pub all : length t.has ≡ length (haves_in q)
  pub given_is : given ≡ acknowledgments q t
  pub unreported : t.ready ≡ None
  pub after : NothingAfter t

pub record AtDelimiter (q : List Arg) (t : FetchFacts) (given : List Pkt) : Type 0 where
  pub negotiates : negotiates q ≡ true
  pub all : length t.has ≡ length (haves_in q)
  pub is_ready : readiness q t ≡ Some true
  pub given_is : given ≡ acknowledgments q t ++ text_line (codes "ready") ∷ []
  pub after : NothingAfter t

-- from here on the pack follows
pub record AtShallow (any : Bool) (q : List Arg) (t : FetchFacts) (given : List Pkt) : Type 0 where
  pub opened : IsOpened q t
  pub some : is_empty t.boundary ≡ not any
  pub given_is : given ≡ opening q t ++ shallow_so_far t.boundary
  pub no_pack : NoPack t

pub record AtShallowLine (line : Boundary) (q : List Arg) (t : FetchFacts) (given : List Pkt) : Type 0 where
  pub opened : IsOpened q t
  pub first : t.boundary ≡ line ∷ []
  pub given_is : given ≡ opening q t ++ text_line (codes "shallow-info") ∷ []
  pub no_pack : NoPack t

pub record AtWantedHeader (q : List Arg) (t : FetchFacts) (given : List Pkt) : Type 0 where
  pub opened : IsOpened q t
  pub ended : t.boundary_ended ≡ true
  pub some : is_empty (want_refs_in q) ≡ false
  pub given_is : given ≡ opening q t ++ shallow_info t.boundary
  pub no_pack : NoPack t

-- the lines of the wanted references were sent up to this place
pub record AtWanted (next : ℕ) (q : List Arg) (t : FetchFacts) (given : List Pkt) : Type 0 where
  pub opened : IsOpened q t
  pub ended : t.boundary_ended ≡ true
  pub some : is_empty (want_refs_in q) ≡ false
  pub given_is : given ≡ (opening q t ++ shallow_info t.boundary) ++ text_line (codes "wanted-refs") ∷ wanted_lines (take next t.wanted) (want_refs_in q)
  pub no_pack : NoPack t

pub record AtPackHeader (q : List Arg) (t : FetchFacts) (given : List Pkt) : Type 0 where
  pub opened : IsOpened q t
  pub ended : t.boundary_ended ≡ true
  pub given_is : given ≡ before_pack q t
  pub no_pack : NoPack t

pub record AtPack (q : List Arg) (t : FetchFacts) (given : List Pkt) : Type 0 where
  pub opened : IsOpened q t
  pub ended : t.boundary_ended ≡ true
  pub parts : List Pkt
  pub are_parts : AreParts t.pack t.progress parts
  pub given_is : given ≡ before_pack q t ++ (packfile_header ∷ parts)

-- by the place, what was reported and what was sent
abbrev pub StandsAt : Place → List Arg → FetchFacts → List Pkt → Type 0
StandsAt Header q t given = AtHeader q t given
StandsAt (Have next any) q t given = AtHave next any q t given
StandsAt Nak q t given = AtNak q t given
StandsAt Ready q t given = AtReady q t given
StandsAt Delimiter q t given = AtDelimiter q t given
StandsAt (Shallow any) q t given = AtShallow any q t given
StandsAt (ShallowLine line) q t given = AtShallowLine line q t given
StandsAt WantedHeader q t given = AtWantedHeader q t given
StandsAt (Wanted next) q t given = (next < length (want_refs_in q)) × AtWanted next q t given
StandsAt WantedEnd q t given = AtWanted (length (want_refs_in q)) q t given
StandsAt PackHeader q t given = AtPackHeader q t given
StandsAt Pack q t given = AtPack q t given
StandsAt AtEnd q t given = IsFetchAnswerOf whole q t given
StandsAt AtLoss q t given = IsFetchAnswerOf broken q t given

-- what is done next at a place: a packet, a question, or the end of the answer
abbrev pub step_at : Bool → Place → Step
step_at alone (Have next any) = AskHave next
step_at true Ready = Packet
step_at false Ready = AskReady
step_at alone (Shallow any) = AskBoundary
step_at alone Pack = AskPack
step_at alone AtEnd = Whole
step_at alone AtLoss = Broken
step_at alone _ = Packet

-- the next packet comes after the acknowledgments and depends on no report
abbrev pub is_line_at : Place → Bool
is_line_at Delimiter = true
is_line_at (ShallowLine line) = true
is_line_at WantedHeader = true
is_line_at (Wanted next) = true
is_line_at WantedEnd = true
is_line_at PackHeader = true
is_line_at _ = false

-- the bytes are those of the packet
pub record Holds (bytes : List ℕ) (packet : Pkt) : Type 0 where
  pub spelled : bytes ≡ spelling_of packet
  pub fits : length (body_of packet) ≤ longest_payload

module _ {A : Type 0} where
  -- the request, as it is kept
  abbrev pub request_of : FetchAnswer A → Kept (List Arg)
  request_of answer = answer.request

  -- what it asks for
  abbrev pub asked_of : FetchAnswer A → List Arg
  asked_of answer = answer.request.asked

  abbrev pub format_of : FetchAnswer A → Format
  format_of answer = answer.format

  abbrev pub place_of : FetchAnswer A → Place
  place_of answer = answer.place

  -- what is to be done next
  abbrev pub step_of : FetchAnswer A → Step
  step_of answer = step_at (only_negotiates (asked_of answer)) answer.place

  -- these facts were reported, and these packets were sent
  pub record Represents (t : FetchFacts) (given : List Pkt) (answer : FetchAnswer A) : Type 0 where
    pub wanted : t.wanted ≡ answer.wanted.items
    pub all : length t.wanted ≡ length (want_refs_in (asked_of answer))
    pub sound : AreSoundFacts (format_of answer) (asked_of answer) t
    pub stands : StandsAt answer.place (asked_of answer) t given

  -- the answer is to the same request
  pub record IsToTheSame (old new : FetchAnswer A) : Type 0 where
    pub request : new.request ≡ old.request
    pub format : new.format ≡ old.format
    pub wanted : new.wanted ≡ old.wanted

  -- these bytes are the next packet, and P holds of all that was sent with it
  pub record Gives (given : List Pkt) (bytes : List ℕ) (old new : FetchAnswer A) (P : List Pkt → Type 0) : Type 0 where
    pub packet : Pkt
    pub held : Holds bytes packet
    pub same : IsToTheSame old new
    pub holds : P (given ++ packet ∷ [])

  -- the facts become these, and these bytes are the next packet
  abbrev pub ReportsAndGives : (FetchFacts → FetchFacts) → FetchAnswer A → List ℕ → FetchAnswer A → Type 0
  ReportsAndGives with old bytes new = (t : FetchFacts) (given : List Pkt) → Represents t given old
      → Gives given bytes old new (λ packets. Represents (with t) packets new)

  -- the facts become these, and no packet is sent
  abbrev pub ReportsAlone : (FetchFacts → FetchFacts) → FetchAnswer A → FetchAnswer A → Type 0
  ReportsAlone with old new =
      (t : FetchFacts) (given : List Pkt) → Represents t given old → IsToTheSame old new × Represents (with t) given new

  -- a report that was asked for does this; any other changes nothing
  abbrev pub WhereAsked : Bool → Type 0 → FetchAnswer A → FetchAnswer A → Type 0
  WhereAsked true Does old new = Does
  WhereAsked false Does old new = new ≡ old

  -- what `next` does, by the step that it returns
  abbrev pub Steps : FetchAnswer A → Step → List ℕ → FetchAnswer A → Type 0
  Steps old Packet bytes new = ReportsAndGives (λ t. t) old bytes new
  Steps old Whole bytes new =
      (new ≡ old) × ((t : FetchFacts) (given : List Pkt) → Represents t given old → IsSoundFetchAnswer whole (format_of old) (asked_of old) t given)
  Steps old Broken bytes new =
      (new ≡ old) × ((t : FetchFacts) (given : List Pkt) → Represents t given old → IsSoundFetchAnswer broken (format_of old) (asked_of old) t given)
  Steps old step bytes new = new ≡ old

-- whether the end of the boundary was asked for
abbrev pub is_asked : BoundaryEnd → Bool
is_asked NotAsked = false
is_asked _ = true

-- whether a line of the boundary, or progress, was asked for
abbrev pub is_line_asked : BoundaryReported → Bool
is_line_asked Line.NotAsked = false
is_line_asked reported = true

abbrev pub is_progress_asked : ProgressReported → Bool
is_progress_asked Progress.NotAsked = false
is_progress_asked reported = true

-- what is asked
abbrev pub is_have : Step → Bool
is_have (AskHave place) = true
is_have _ = false

abbrev pub is_ready_asked : Step → Bool
is_ready_asked AskReady = true
is_ready_asked _ = false

abbrev pub is_boundary : Step → Bool
is_boundary AskBoundary = true
is_boundary _ = false

-- something that comes before the pack
abbrev pub is_before_pack : Step → Bool
is_before_pack (AskHave place) = true
is_before_pack AskReady = true
is_before_pack AskBoundary = true
is_before_pack _ = false

abbrev pub is_pack : Step → Bool
is_pack AskPack = true
is_pack _ = false

-- the end of an answer that broke off
abbrev pub is_loss : Step → Bool
is_loss Broken = true
is_loss _ = false

-- one report more
abbrev pub with_have : Bool → FetchFacts → FetchFacts
with_have has t = record t { has = t.has ++ has ∷ [] }

abbrev pub with_ready : Bool → FetchFacts → FetchFacts
with_ready ready t = record t { ready = Some ready }

abbrev pub with_line : Boundary → FetchFacts → FetchFacts
with_line line t = record t { boundary = t.boundary ++ line ∷ [] }

abbrev pub with_boundary_end : FetchFacts → FetchFacts
with_boundary_end t = record t { boundary_ended = true }

abbrev pub with_pack : List ℕ → FetchFacts → FetchFacts
with_pack bytes t = record t { pack = t.pack ++ bytes }

abbrev pub with_progress : List ℕ → FetchFacts → FetchFacts
with_progress bytes t = record t { progress = t.progress ++ bytes }

-- where an answer begins
abbrev pub place_by : Bool → Place
place_by true = Header
place_by false = Shallow false

-- the place after all the objects that the client has, by whether any is common
abbrev pub after_haves : Bool → Place
after_haves true = Ready
after_haves false = Nak

-- the place after the boundary, and after its delimiter
abbrev pub after_boundary : Bool → Place
after_boundary true = PackHeader
after_boundary false = WantedHeader

module _ {A : Type 0} where
  -- what the end of the boundary does: it is over
  abbrev pub EndsBoundary : BoundaryEnd → FetchAnswer A → List ℕ → FetchAnswer A → Type 0
  EndsBoundary NotAsked old bytes new = new ≡ old
  EndsBoundary Absent old bytes new = ReportsAlone with_boundary_end old new × (is_boundary (step_of new) ≡ false)
  EndsBoundary DelimGiven old bytes new = ReportsAndGives with_boundary_end old bytes new

  -- what a line of the boundary does: one that no sound repository has for the request changes nothing
  abbrev pub ReportsLine : Boundary → BoundaryReported → FetchAnswer A → List ℕ → FetchAnswer A → Type 0
  ReportsLine line Line.Packet old bytes new = ReportsAndGives (with_line line) old bytes new
  ReportsLine line Line.NotAsked old bytes new = new ≡ old
  ReportsLine line Line.MixedFormats old bytes new = (new ≡ old) × ((object_of line).format ≢ format_of old)
  ReportsLine line Line.NotShallow old bytes new = (new ≡ old) × ¬ IsUnshallowOf (shallows_in (asked_of old)) line

  -- the request wants no progress
  abbrev pub WantsNoProgress : FetchAnswer A → Type 0
  WantsNoProgress answer = flag_among (asked_of answer) Flag.NoProgress ≡ true

  -- what bytes of the progress do
  abbrev pub ReportsProgress : List ℕ → ProgressReported → FetchAnswer A → List ℕ → FetchAnswer A → Type 0
  ReportsProgress part Progress.Packet old bytes new = ReportsAndGives (with_progress part) old bytes new
  ReportsProgress part Progress.NotAsked old bytes new = new ≡ old
  ReportsProgress part Progress.Hidden old bytes new = (new ≡ old) × WantsNoProgress old
