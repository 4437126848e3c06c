-- Answers one after the other, and repositories whose answers can be written.
use Rattle.std.proofs.Common.{◌≡◌, ℕ, All, List, [], ◌∷◌, ◌++◌, Option, Some, None, IfSome, refl, ap, sym, ◌∙◌, subst, append_assoc}
use Rattle.std.proofs.lemmas.Bool.{cond_both}
use Rattle.std.proofs.lemmas.List.{append-nil}
use Rattle.std.proofs.lemmas.List.Elements.{All-head, All-tail}
use Rattle.std.specs.List.{filter_map}
use Rattle.std.specs.Ordering.{is_eq}
use Rattle.git_names.specs.ObjectName.{ObjectName, IsOid}
use Rattle.git_names.specs.declared.object_format.Format.{Format}
use Rattle.git_names.proofs.ObjectNames.{IsOid-of_text}
use Rattle.git_pkt.specs.Packets.{Pkt}
use Rattle.git_pkt.specs.Splits.{Given}
use Rattle.git_msg.specs.declared.Boundary.TheVariants.{Shallow, Unshallow}
use Rattle.git_msg.specs.Asked.{Asked}
use Rattle.git_msg.specs.References.{IsMaybeObjectName, IsReferenceLine}
use Rattle.git_msg.specs.ResponseLines.{IsSize, object_of}
use Rattle.git_client.specs.Machine.Client.{AreWhole}
use Rattle.git_client.specs.Conversation.{GiveAll}
use Rattle.git_client.specs.Events.{ended}
use Rattle.git_client.specs.Parts.{Terms, nearest}
use Rattle.git_client.specs.declared.events.Ending.{Ending}
use Rattle.git_client.specs.declared.events.Ending.TheVariants.{FlushOnly}
use Rattle.git_server.specs.Answers.{IsAnswer}
use Rattle.git_server.specs.BoundaryLaws.{announced_keep}
use Rattle.git_server.specs.Machine.ListRepo.{lists_of, state_of}
use Rattle.git_server.specs.Lists.{Lists}
use Rattle.git_server.specs.Objects.{object_cmp, size_among}
use Rattle.git_server.specs.Repository.{Entry, IsSound, Repository}
use Rattle.git_server.specs.Sessions.{AreAnswers}
use Rattle.git_server.specs.declared.list_repo.ListRepo.{ListRepo}
use Rattle.git_repository.specs.Packs.{PackBytes}
use Rattle.git_repository.specs.RepositoryLines.{LineContent, HasContent, boundary, object, ref_of, reference}
use Rattle.git_repository.specs.RepositoryText.{IsRepositoryText, MayCome, boundary_in, object_in, ref_in}
use Rattle.git_client.proofs.ConversationRules.{cut_at}
use Rattle.git_client.proofs.Sequences.{give_all_append, nearest-append}
use Rattle.git_laws.specs.AnnouncedAnswers.{AsksIn, IsEntryOfNames, CanBeWritten, end_packets, packets_of, announced_all, announced_by}
use Rattle.git_msg.specs.ItemsInOrder.{AreItems}
use Rattle.git_msg.proofs.FoundParts.{All-filter_map}
use Rattle.git_msg.proofs.ItemLaws.{all_items}
use Rattle.git_laws.proofs.ReceivingAnswers.{arrived, whole_after}

-- ---- answers one after the other

-- the packets are an answer to each request, in order, each with the packets after its flush
abbrev pub AreEnded : Ending → Repository → List Asked → List Pkt → Type 0
AreEnded ending repo [] packets = packets ≡ []
AreEnded ending repo (q ∷ asked) packets =
    (answer : List Pkt) × (more : List Pkt) × (packets ≡ (answer ++ end_packets ending) ++ more) × IsAnswer repo q answer × AreEnded ending repo asked more

-- nothing follows an answer's flush
pub ended_by_flush : (repo : Repository) (asked : List Asked) (packets : List Pkt) → AreAnswers repo asked packets → AreEnded FlushOnly repo asked packets
ended_by_flush repo [] packets none = none
ended_by_flush repo (q ∷ asked) packets (answer, more, parts, is, rest) =
    (answer, more, parts ∙ ap (λ (l : List Pkt). l ++ more) (sym (append-nil answer)), is, ended_by_flush repo asked more rest)

module _ (t : Terms) (repo : Repository) (sound : IsSound repo) (written : CanBeWritten repo) (same : repo.format ≡ t.format) where
  -- all answers give their events, and then the conversation is whole
  pub all_arrived : (asked earlier later : List Asked) (before packets : List Pkt) (gs : List Given) → All (AsksIn t.format) asked
      → AreEnded t.ending repo asked packets → AreWhole t earlier before → packets_of gs ≡ packets
      → GiveAll t (earlier ++ (asked ++ later)) before gs (announced_all repo asked) × AreWhole t (earlier ++ asked) (nearest gs before)
  all_arrived [] earlier later before packets [] asks none before_whole e =
      (refl, rw (append-nil earlier) before_whole)
  all_arrived [] earlier later before packets (g ∷ gs) asks none before_whole e = absurd (cc)
  all_arrived (q ∷ asked) earlier later before packets gs asks (answer, more, parts, is, rest) before_whole e =
      let c = cut_at gs (answer ++ end_packets t.ending) more (e ∙ parts) in
      let one = All-head (AsksIn t.format) q asked asks in
      let now = arrived t repo earlier q before answer c.first sound written same one is before_whole c.first_are (asked ++ later) in
      let then = whole_after t repo earlier q before answer c.first sound written same one is before_whole c.first_are in
      let others = all_arrived asked (earlier ++ q ∷ []) later (nearest c.first before) more c.second (All-tail (AsksIn t.format) q asked asks) rest then
      c.second_are in
      let behind = rw (append_assoc earlier (q ∷ []) (asked ++ later)) at others.0 in (
        rw c.whole (give_all_append t (earlier ++ (q ∷ (asked ++ later))) before c.first c.second (announced_by repo q ++ ended ∷ [])
            (announced_all repo asked) now
            behind),
        rw (c.whole, nearest-append c.first c.second before, ← append_assoc earlier (q ∷ []) asked) others.1,
      )

-- ---- the contents of a text can be written

-- the object names of a reference line are valid
names_of : (format : Format) (line : List ℕ) (entry : Entry) → IsReferenceLine format line (ref_of entry) → IsEntryOfNames entry
names_of format line entry h = record {
  by_id = IsOid-of_text format h.id entry.id h.id_is;
  by_peeled = λ id e. peeled _ entry.peeled id h.attributes_are.peeled_is e;
} where
  peeled : (text : Option (List ℕ)) (found : Option ObjectName) (id : ObjectName) → IsMaybeObjectName format text found → found ≡ Some id → IsOid id
  peeled None found id none e = absurd (cc)
  peeled (Some digits) found id (named, is, same) e =
      let there : named ≡ id = cc in
      subst IsOid there (IsOid-of_text format digits named is)

module _ (format : Format) where
  -- a property of the items that one line may have holds of those of all lines
  parts_written : {X : Type 0} (P : X → Type 0) (part : LineContent → Option X)
      → ((s : LineContent) (line : List ℕ) → HasContent format line s → IfSome (part s) P)
      → (lines : List (List ℕ)) (content : List LineContent) → AreItems (MayCome format) [] lines content → All P (filter_map part content)
  parts_written P part is lines content h =
      All-filter_map P part content
      (all_items (MayCome format) (λ s. IfSome (part s) P) (λ before line s may. is s line may.0.1) [] lines content h)

  -- the object names of a reference are valid
  ref_written : (s : LineContent) (line : List ℕ) → HasContent format line s → IfSome (ref_in s) IsEntryOfNames
  ref_written (reference entry) line conveys = names_of format conveys.value entry conveys.holds
  ref_written s line conveys = tt

  -- a size has 64 bits
  size_written : (s : LineContent) (line : List ℕ) → HasContent format line s → IfSome (object_in s) (λ object. IsSize object.1)
  size_written (object id size) line conveys = conveys.holds.in_range
  size_written s line conveys = tt

  -- the object name of a line of the shallow boundary is valid
  boundary_written : (s : LineContent) (line : List ℕ) → HasContent format line s → IfSome (boundary_in s) (λ line. IsOid (object_of line))
  boundary_written (boundary (Shallow id)) line conveys = IsOid-of_text format conveys.value id conveys.holds
  boundary_written (boundary (Unshallow id)) line conveys = IsOid-of_text format conveys.value id conveys.holds
  boundary_written s line conveys = tt

-- a size that is found is one of the text's
found_size : (objects : List (ObjectName × ℕ)) (id : ObjectName) (size : ℕ) → All (λ object. IsSize object.1) objects → size_among objects id ≡ Some size
    → IsSize size
found_size [] id size all found = absurd (cc)
found_size (first ∷ objects) id size all found =
    cond_both (is_eq (object_cmp first.0 id)) (Some first.1) (size_among objects id) (λ (found : Option ℕ). found ≡ Some size → IsSize size)
    (λ it here. let same : first.1 ≡ size = cc in rw same at (All-head (λ (o : ObjectName × ℕ). IsSize o.1) first objects all))
    (λ other. found_size objects id size (All-tail (λ (o : ObjectName × ℕ). IsSize o.1) first objects all)) found

-- the answers of a repository that was read from a text can be written
pub can_be_written : (repo : ListRepo) (text : List ℕ) (packs : PackBytes) → IsRepositoryText text packs (lists_of repo) → CanBeWritten (state_of repo).answers
can_be_written repo text packs h =
    let lines = h.begins.others in
    let all = h.begins.others_are in
    record {
      refs = rw (ap (λ (l : Lists). l.refs) h.lists_are) (parts_written h.format IsEntryOfNames ref_in (ref_written h.format) lines h.content all);
      boundaries = λ q. announced_keep (λ line. IsOid (object_of line)) (lists_of repo).boundaries q (rw (ap (λ (l : Lists). l.boundaries) h.lists_are)
          (parts_written h.format (λ line. IsOid (object_of line)) boundary_in (boundary_written h.format) lines h.content all));
      sizes = λ id size. found_size (lists_of repo).objects id size (rw (ap (λ (l : Lists). l.objects) h.lists_are)
          (parts_written h.format (λ object. IsSize object.1) object_in (size_written h.format) lines h.content all));
    }
