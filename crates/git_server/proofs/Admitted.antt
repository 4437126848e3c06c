-- What follows of requests if the repository refuses one of their arguments, or none.
use Rattle.std.proofs.Common.{◌≡◌, ◌≢◌, ℕ, Bool, true, false, if◌then◌else◌, All, IfSome, Option, Some, None, List, [], ◌∷◌, ◌++◌}
use Rattle.std.proofs.Common.{refl, sym, ap, ◌∙◌, subst, inl, inr}
use Rattle.std.proofs.lemmas.List.Elements.{All-append, All-cons, All-nil, All-weaker}
use Rattle.git_names.specs.ObjectName.{ObjectName}
use Rattle.git_pkt.specs.Splits.{Given}
use Rattle.git_pkt.specs.declared.fault.Fault.{Fault}
use Rattle.git_pkt.specs.declared.fault.Kind.{Kind}
use Rattle.git_pkt.specs.declared.fault.Kind.TheVariants.{NotOurs, UnknownRef}
use Rattle.git_msg.specs.declared.offers.Offer.{Offer}
use Rattle.git_msg.specs.declared.arguments.Command.{Command}
use Rattle.git_msg.specs.declared.arguments.Command.TheVariants.{LsRefs, Fetch, ObjectInfo}
use Rattle.git_msg.specs.Admission.{AreAdmitted, IsAdmitted, IsAnnouncedFor}
use Rattle.git_msg.specs.Arguments.{Arg, with_id, with_text}
use Rattle.git_msg.specs.declared.words.ObjectWord.{ObjectWord}
use Rattle.git_msg.specs.declared.words.TextWord.{TextWord}
use Rattle.git_msg.specs.Asked.{Asked, asked_by, id_in, text_in, written}
use Rattle.git_msg.specs.Lines.{Line, arguments_of, kept_arguments, options_of, server_option}
use Rattle.git_msg.specs.Requests.{AreLines, Asks}
use Rattle.git_msg.proofs.FoundParts.{All-filter_map}
use Rattle.git_msg.proofs.LineLaws.{fronts_same, one_list_of_lines}
use Rattle.git_msg.proofs.WrittenArguments.{all_written}
use Rattle.git_msg.proofs.PacketFaults.{NotOfPackets, announced_of_packets}
use Rattle.git_server.specs.Repository.{Repository, found_ref}
use Rattle.git_server.specs.Admission.{barred, barred_ref, HasAsked}

had_by : (b : Bool) → (if b then None else Some NotOurs) ≡ None → b ≡ true
had_by true h = refl
had_by false h = absurd (cc)

found_by : (found : Option ObjectName) → barred_ref found ≡ None → found ≢ None
found_by (Some id) h none = cc
found_by None h none = cc

-- not one of the errors that a repository refuses an argument with
pub record NotOfRepository (kind : Kind) : Type 0 where
  pub not_ours : kind ≢ NotOurs
  pub not_unknown : kind ≢ UnknownRef

barred_by : (b : Bool) (kind : Kind) → NotOfRepository kind → (if b then None else Some NotOurs) ≡ Some kind → ⊥
barred_by true kind other h = cc
barred_by false kind other h = other.not_ours (cc)

unfound_by : (found : Option ObjectName) (kind : Kind) → NotOfRepository kind → barred_ref found ≡ Some kind → ⊥
unfound_by (Some id) kind other h = cc
unfound_by None kind other h = other.not_unknown (cc)

not_barred : (repo : Repository) (arg : Arg) (kind : Kind) → NotOfRepository kind → barred repo arg ≡ Some kind → ⊥
not_barred repo (with_id ObjectWord.Want id) kind other h = barred_by (repo.has id) kind other h
not_barred repo (with_text TextWord.WantRef name) kind other h = unfound_by (found_ref repo.refs name) kind other h
not_barred repo arg kind other h = absurd (cc)

want_had : (repo : Repository) (arg : Arg) → barred repo arg ≡ None → IfSome (id_in ObjectWord.Want arg) (λ id. repo.has id ≡ true)
want_had repo (with_id ObjectWord.Want id) h = had_by (repo.has id) h
want_had repo arg h = tt

ref_found : (repo : Repository) (arg : Arg) → barred repo arg ≡ None → IfSome (text_in TextWord.WantRef arg) (λ name. found_ref repo.refs name ≢ None)
ref_found repo (with_text TextWord.WantRef name) h = found_by (found_ref repo.refs name) h
ref_found repo arg h = tt

-- a request of admitted arguments asks for objects and references that the repository has
asked_had : (repo : Repository) (c : Command) (args : List Arg) → All (IsAdmitted (barred repo)) args → HasAsked repo (asked_by c args)
asked_had repo LsRefs args h = tt
asked_had repo ObjectInfo args h = tt
asked_had repo Fetch args h =
    let all = all_written (IsAdmitted (barred repo)) args h in (
      All-filter_map (λ id. repo.has id ≡ true) (id_in ObjectWord.Want) (written args)
          (All-weaker (IsAdmitted (barred repo)) (λ arg. IfSome (id_in ObjectWord.Want arg) (λ id. repo.has id ≡ true)) (want_had repo) (written args) all),
      All-filter_map (λ name. found_ref repo.refs name ≢ None) (text_in TextWord.WantRef) (written args)
          (All-weaker (IsAdmitted (barred repo)) (λ arg. IfSome (text_in TextWord.WantRef arg) (λ name. found_ref repo.refs name ≢ None))
          (ref_found repo) (written args) all),
    )

-- a repository refuses no server option
options_admitted : (repo : Repository) (lines : List Line) → All (IsAdmitted (barred repo)) (options_of lines)
options_admitted repo [] = All-nil (IsAdmitted (barred repo))
options_admitted repo (server_option option ∷ lines) =
    All-cons (IsAdmitted (barred repo)) (with_text TextWord.ServerOption option) (options_of lines) refl (options_admitted repo lines)
options_admitted repo (line ∷ lines) = options_admitted repo lines

all_admitted : (repo : Repository) (lines : List Line) → AreAdmitted (barred repo) lines → All (IsAdmitted (barred repo)) (kept_arguments lines)
all_admitted repo lines admitted =
    All-append (IsAdmitted (barred repo)) (options_of lines) (arguments_of lines) (options_admitted repo lines) admitted

module _ (offer : Offer) (limit : ℕ) (repo : Repository) where
  -- a fault of the packets that no packet is refused for, but by a repository
  pub not_announced_for : (packets : List Given) (fault : Fault) (kind : Kind) → NotOfPackets kind → NotOfRepository kind
      → IsAnnouncedFor offer limit (barred repo) packets fault → fault.kind ≢ kind
  not_announced_for packets fault kind strange other (inl b) is =
      not_barred repo b.is_barred.arg kind other (b.is_barred.refuses ∙ ap Some is)
  not_announced_for packets fault kind strange other (inr (unbarred, announced)) is = announced_of_packets kind strange offer limit packets fault announced is

  -- what a whole request asks for, whose lines are admitted
  pub request_had : (left : List Given) (g : Given) (lines : List Line) (q : Asked) (kept : ℕ) → AreLines offer limit [] left lines
      → AreAdmitted (barred repo) lines → Asks offer limit (left ++ g ∷ []) q kept → HasAsked repo q
  request_had left g lines q kept are admitted asks =
      let its_lines = subst (λ (gs : List Given). AreLines offer limit [] gs lines) (fronts_same left asks.front g asks.last asks.whole) are in
      let same = one_list_of_lines offer limit [] asks.front lines asks.lines its_lines asks.taken in
      subst (HasAsked repo) (sym asks.asked_is)
      (asked_had repo asks.command (kept_arguments asks.lines) (all_admitted repo asks.lines (subst (AreAdmitted (barred repo)) same admitted)))
