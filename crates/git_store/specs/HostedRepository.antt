-- Sessions of a host that answers as one repository does.
use Rattle.std.specs.Prelude.{◌≡◌, ◌⊎◌, ℕ, false, List, [], ◌∷◌, ◌++◌, length, map}
use Rattle.git_pkt.specs.Splits.{Given}
use Rattle.git_pkt.specs.Packets.{spelling_of}
use Rattle.git_pkt.specs.declared.fault.Fault.{Fault}
use Rattle.git_pkt.specs.declared.fault.Kind.{Kind}
use Rattle.git_pkt.specs.declared.fault.Kind.TheVariants.{UnknownRef}
use Rattle.git_msg.specs.Admission.{IsUnbarred}
use Rattle.git_msg.specs.Arguments.{Arg}
use Rattle.git_msg.specs.Asked.{Asked, fetch, ls_refs, object_info, oids_in, want_refs_in, wants_in}
use Rattle.git_msg.specs.Machine.RequestStreams.{AreAsked}
use Rattle.git_server.specs.Admission.{barred}
use Rattle.git_server.specs.Packs.{broken, whole}
use Rattle.git_server.specs.Repository.{Repository, found_ref}
use Rattle.git_server.specs.Answers.{error_packet}
use Rattle.git_server.specs.Sessions.{IsEnding, Setting}
use Rattle.git_server.specs.declared.outcome.Outcome.{Outcome}
use Rattle.git_server.specs.declared.outcome.Outcome.TheVariants.{Flush, Closed, Refused}
use Rattle.git_host.specs.Admissions.{AdmissionFacts, IsRefusedBy}
use Rattle.git_host.specs.HostSessions.{AtLast, Facts, HostSetting, IsCutShort, IsFront, of_fetch, of_references, of_sizes}
use Rattle.git_host.specs.RepositoryFacts.{AreOfRepository}

-- what was reported for the request is what the repository answers
abbrev pub IsOfRepository : Repository → Asked → Facts → Type 0
IsOfRepository repo (ls_refs q) (of_references t) = (t.refs ≡ repo.refs) × (t.unborn ≡ repo.unborn_head)
IsOfRepository repo (fetch q) (of_fetch a t) = AreOfRepository whole repo q t
IsOfRepository repo (object_info q) (of_sizes sizes) = sizes ≡ map repo.object_size (oids_in q)
IsOfRepository repo q f = ⊥

-- and so of each request
abbrev pub AllOfRepository : Repository → List Asked → List Facts → Type 0
AllOfRepository repo [] [] = Unit {0}
AllOfRepository repo (q ∷ qs) (f ∷ fs) = IsOfRepository repo q f × AllOfRepository repo qs fs
AllOfRepository repo _ _ = ⊥

-- what was reported of what a fetch wants is what the repository answers
pub record IsAdmittedBy (repo : Repository) (q : List Arg) (a : AdmissionFacts) : Type 0 where
  pub wants : a.wants ≡ map repo.has (wants_in q)
  pub found : a.found ≡ map (found_ref repo.refs) (want_refs_in q)

abbrev pub IsAdmittedByRepository : Repository → Asked → Facts → Type 0
IsAdmittedByRepository repo (fetch q) (of_fetch a t) = IsAdmittedBy repo q a
IsAdmittedByRepository repo q f = Unit {0}

-- and so of each request, with its answer
abbrev pub AllReportedBy : Repository → List Asked → List Facts → Type 0
AllReportedBy repo [] [] = Unit {0}
AllReportedBy repo (q ∷ qs) (f ∷ fs) = IsAdmittedByRepository repo q f × IsOfRepository repo q f × AllReportedBy repo qs fs
AllReportedBy repo _ _ = ⊥

-- the requests that these bytes begin with, as many as were reported on, were reported on as by the repository
abbrev pub IsReportedBy : HostSetting → Repository → List ℕ → List Facts → Type 0
IsReportedBy s repo used reported =
    (asked : List Asked) (left : List Given) (rest : List ℕ) → AreAsked s.offer s.limit used asked left rest → length asked ≡ length reported
    → AllReportedBy repo asked reported

-- no packet of a request that broke off asks for what the repository lacks
abbrev pub HasAllSoFar : HostSetting → Repository → List Given → Type 0
HasAllSoFar s repo left = (front more : List Given) → left ≡ front ++ more → IsUnbarred s.offer s.limit (barred repo) front

-- whatever these bytes begin to ask for, the repository has it
abbrev pub HasWhatIsBegun : HostSetting → Repository → List ℕ → Type 0
HasWhatIsBegun s repo used =
    (asked : List Asked) (left : List Given) (rest : List ℕ) → AreAsked s.offer s.limit used asked left rest → HasAllSoFar s repo left

-- what was reported for a fetch whose pack was lost is what the repository answers, with a front of its pack
abbrev pub IsLostOfRepository : Repository → Asked → Facts → Type 0
IsLostOfRepository repo (fetch q) (of_fetch a t) = IsAdmittedBy repo q a × AreOfRepository broken repo q t
IsLostOfRepository repo q f = ⊥

-- the store lacks what the request asks for, which is refused by this name, and so far this was reported as by the repository
abbrev pub IsLackedByRepository : Repository → Kind → Asked → Facts → Type 0
IsLackedByRepository repo kind (fetch q) (of_fetch a t) =
    IsRefusedBy kind q a × IsFront a.wants (map repo.has (wants_in q)) × IsFront a.found (map (found_ref repo.refs) (want_refs_in q))
IsLackedByRepository repo kind q f = ⊥

-- whatever these bytes ask for, this was reported for each request but the last as by the repository, and for the last so that Last holds of it
abbrev pub IsReportedUpTo : (Asked → Facts → Type 0) → HostSetting → Repository → List ℕ → List Facts → Type 0
IsReportedUpTo Last s repo used reported =
    (earlier : List Asked) (q : Asked) (earlier_reported : List Facts) (f : Facts) → AreAsked s.offer s.limit used (earlier ++ q ∷ []) [] []
    → reported ≡ earlier_reported ++ f ∷ [] → AllReportedBy repo earlier earlier_reported × Last q f

-- the last answer was cut short before its pack began
pub record IsCutBeforePack (s : HostSetting) (used : List ℕ) (reported : List Facts) (given : List ℕ) (fault : Fault) : Type 0 where
  pub asked : List Asked
  pub are_asked : AreAsked s.offer s.limit used asked [] []
  pub last : AtLast s asked reported given (IsCutShort s.offer.format fault)

-- the setting of a server over the repository
abbrev pub over_repository : HostSetting → Repository → ℕ → Setting
over_repository s repo failures =
    record { offer = s.offer; limit = s.limit; advertise = s.advertise; repo = repo; failures = failures }

-- a server in this setting refuses a line of the last of these requests, by the same name or as one of a reference that its repository lacks, and
-- gives what was sent here, but for the fault in the error packet
pub record RefusesAtItsLine (s : Setting) (used given : List ℕ) (fault : Fault) : Type 0 where
  pub before : List ℕ
  pub given_is : given ≡ before ++ spelling_of (error_packet fault)
  pub first : List ℕ
  pub later : List ℕ
  pub cut : used ≡ first ++ later
  pub line : Fault
  pub name : (line.kind ≡ fault.kind) ⊎ (line.kind ≡ UnknownRef)
  pub ends : IsEnding s first false before (Refused line) (error_packet line ∷ [])

-- nothing was refused: the client left, or the input ended between two requests
abbrev pub EndsWell : Outcome → Type 0
EndsWell Flush = Unit {0}
EndsWell Closed = Unit {0}
EndsWell (Refused fault) = ⊥
