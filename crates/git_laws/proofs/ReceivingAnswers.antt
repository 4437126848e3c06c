-- Each answer, section by section, as a client receives it.
use Rattle.std.proofs.Common.{arith, ◌≡◌, ℕ, ◌<◌, Bool, true, false, not, ◌&&◌, ◌||◌, All, length, map, List, [], ◌∷◌, ◌++◌, Option, Some, None, IfSome}
use Rattle.std.proofs.Common.{codes, refl, ap}
use Rattle.std.proofs.Common.{sym, ◌∙◌, subst, append_assoc, slice_index, cond}
use Rattle.std.specs.List.{filter_map, cons_option}
use Rattle.std.specs.Option.{ForSome, option_map}
use Rattle.std.specs.Str.{bytes_eq}
use Rattle.std.proofs.lemmas.Bool.{and_from, and_parts, cond_both}
use Rattle.std.proofs.lemmas.List.{get_or_append_left}
use Rattle.std.proofs.lemmas.List.Elements.{All-cons, All-filter, All-head, All-nil, All-tail}
use Rattle.std.proofs.lemmas.Slice.Eq.{bytes_eq-Decides}
use Rattle.git_names.specs.Digits.{IsHexDigit, digit_value}
use Rattle.git_names.specs.ObjectFormat.{digits_of}
use Rattle.git_names.specs.ObjectName.{ObjectName, IsOid, hex_of}
use Rattle.git_names.specs.RefName.{IsRefName}
use Rattle.git_names.specs.declared.object_format.Format.{Format}
use Rattle.git_names.specs.declared.object_format.Format.TheVariants.{Sha1, Sha256}
use Rattle.git_names.proofs.WrittenForms.{digits-object_name}
use Rattle.git_pkt.specs.Packets.{Pkt, flush, delim}
use Rattle.git_pkt.specs.Splits.{Given}
use Rattle.git_pkt.proofs.Texts.{text_of-line_end}
use Rattle.git_msg.specs.declared.Boundary.{Boundary}
use Rattle.git_msg.specs.declared.Boundary.TheVariants.{Shallow, Unshallow}
use Rattle.git_msg.specs.Arguments.{IsNameIn}
use Rattle.git_msg.specs.Asked.{Asked, fetch, is_empty, ls_refs, object_info, done_in, flag_among, haves_in, oids_in, peel_in}
use Rattle.git_msg.specs.Asked.{ref_prefixes_in, symrefs_in, want_refs_in}
use Rattle.git_msg.specs.declared.response_lines.Info.{Info}
use Rattle.git_msg.specs.References.{IsWritable, reference_of, reference_text}
use Rattle.git_msg.specs.ResponseLines.{IsSize, Wanted, ack_text, boundary_text, info_text, object_of, wanted_of, wanted_text}
use Rattle.git_msg.specs.Texts.{IsErrorText}
use Rattle.git_msg.specs.WrittenRequest.{text_line}
use Rattle.git_msg.proofs.FoundParts.{All-filter_map}
use Rattle.git_msg.proofs.ReferenceLaws.{reference_reads_back}
use Rattle.git_msg.proofs.ResponseLines.{ack_reads_back, boundary_reads_back, info_reads_back, wanted_reads_back}
use Rattle.git_msg.proofs.WrittenNames.{hex_of-reads_back, length-hex_of}
use Rattle.git_client.specs.Machine.Client.{AreWhole, IsExpected}
use Rattle.git_client.specs.Conversation.{GiveAll}
use Rattle.git_client.specs.Events.{EventValue, GivesLine, ack, ended, info, nak, pack, ready, reference, section, wanted_ref}
use Rattle.git_client.specs.Parts.{Terms, nearest}
use Rattle.git_client.specs.Places.{acknowledgments as acknowledgments_at, references, shallow_info as shallow_place, sizes, wanted_refs as wanted_place}
use Rattle.git_client.specs.Sections.{allowed_after, acks_with}
use Rattle.git_client.specs.Machine.Turns.{after_acknowledgments, first_expected}
use Rattle.git_client.specs.declared.phase.Expected.TheVariants.{Acknowledgments, Header, Packfile, References, ShallowInfo, SizeLine, Sizes, WantedRefs}
use Rattle.git_client.specs.declared.sections.Section.TheVariants.{Acknowledgments as AcknowledgmentsHeader, ShallowInfo as ShallowInfoHeader}
use Rattle.git_client.specs.declared.sections.Section.TheVariants.{WantedRefs as WantedRefsHeader, Packfile as PackfileHeader}
use Rattle.git_client.specs.declared.sections.Allowed.{Allowed}
use Rattle.git_client.specs.declared.sections.Acks.{Acks}
use Rattle.git_client.proofs.Questions.{expected_stated}
use Rattle.git_client.proofs.Sequences.{gives_more}
use Rattle.git_server.specs.Answers.{IsAnswer, reference_packet, info_packet, is_shown, ls_refs_answer, object_info_answer, shown_line, shown_refs}
use Rattle.git_server.specs.Answers.{asks_for_unborn, unborn_packet, unborn_packets}
use Rattle.git_server.specs.FetchAnswers.{EndsWithBoundary, EndsWithRefs, IsFetchAnswerBy, IsNegotiated, ack_packet, acknowledgments, boundary_packet, common}
use Rattle.git_server.specs.FetchAnswers.{is_ready_for, nak_or_acks, negotiates, ready_lines, shallow_info, wanted_packet, wanted_refs}
use Rattle.git_server.specs.Objects.{object_of as boundary_object}
use Rattle.git_server.specs.Packs.{IsPackfile, whole}
use Rattle.git_server.specs.Repository.{Entry, IsNamed, IsOfFormat, IsSound, IsUnbornHead, Repository, found_ref}
use Rattle.git_server.proofs.UnbornHead.{unborn_is_writable}
use Rattle.git_laws.specs.AnnouncedAnswers.{AsksIn, CanBeWritten, IsEntryOfNames, end_packets, found_refs, packets_of}
use Rattle.git_laws.specs.AnnouncedAnswers.{announced_boundaries, announced_boundary, announced_by, announced_common, announced_fetch, announced_pack}
use Rattle.git_laws.specs.AnnouncedAnswers.{announced_packfile, announced_ready, announced_refs, announced_sizes, announced_unborn, announced_wanted}
use Rattle.git_laws.proofs.Receiving.{AnswerGives, bands_give, caps_at, end_gives, given_give, given_whole, header_gives}
use Rattle.git_laws.proofs.Receiving.{lines_give, no_error, of_text, packet_gives}
use Rattle.git_msg.specs.Arguments.{Arg}
use Rattle.git_msg.specs.declared.flags.Flag.{Flag}

-- ---- lines that are no error packets

-- `R` is not a digit
no_digit : ¬ IsHexDigit 82
unfolding digit_value
no_digit is = omega arith

-- an object name has more than one digit
some_digits : (format : Format) → 1 < digits_of format
some_digits Sha1 = omega arith
some_digits Sha256 = omega arith

-- a line that begins with an object name is no error packet: its second byte is a digit and not `R`
name_no_error : (format : Format) (id : ObjectName) (rest : List ℕ) → IsNameIn format id → ¬ IsErrorText (hex_of id ++ rest)
name_no_error format id rest h error =
    let long : 1 < length (hex_of id) = omega (arith, length-hex_of format id h, some_digits format) in
    let digit = digits-object_name format (hex_of id) id (hex_of-reads_back format id h) 1 long in
    let second : slice_index (hex_of id) 1 ≡ 82 = sym (get_or_append_left (hex_of id) rest 0 1 long) ∙ ap (λ (xs : List ℕ). slice_index xs 1) error.spelled in
    no_digit (subst IsHexDigit second digit)

-- an attribute that is shown is one that exists
chosen : {X : Type 0} (flag : Bool) (found : Option X) (x : X) → cond flag found None ≡ Some x → found ≡ Some x
chosen true found x h = h
chosen false found x h = absurd (cc)

-- ---- the event of each kind of line

-- the line of a reference: its target and its peeled object are shown only if the request asks for them
reference_line : (format : Format) (symrefs peel : Bool) (entry : Entry) → IsNamed entry.name entry.target → IsOfFormat format entry
    → IsEntryOfNames entry
    → GivesLine references format (reference_text (shown_line symrefs peel entry)) (reference (shown_line symrefs peel entry) ∷ [])
reference_line format symrefs peel entry named of_format names =
    let ref = shown_line symrefs peel entry in
    let in_format : IsNameIn format entry.id = record { of_format = of_format.by_id; is_oid = names.by_id } in
    let writable : IsWritable ref = record {
      name = named.by_name;
      target = λ name e. named.by_target name (chosen symrefs entry.target name e);
      one_format = (
        format,
        record {
          by_id = λ id e. let same : entry.id ≡ id = cc in sym (ap (λ (o : ObjectName). o.format) same) ∙ of_format.by_id;
          by_peeled = λ id e. of_format.by_peeled id (chosen peel entry.peeled id e);
        },
      );
    } in
    record {
      no_error = name_no_error format entry.id _ in_format;
      conveys = reference_reads_back format ref (λ id e. let same : entry.id ≡ id = cc in subst (IsNameIn format) same in_format)
          (λ id e. record {
            of_format = of_format.by_peeled id (chosen peel entry.peeled id e);
            is_oid = names.by_peeled id (chosen peel entry.peeled id e);
          }) writable;
    }

-- the line of an unborn `HEAD`
unborn_line : (format : Format) (target : List ℕ) → IsRefName target
    → GivesLine references format (reference_text (reference_of None (codes "HEAD") (Some target) None))
    (reference (reference_of None (codes "HEAD") (Some target) None) ∷ [])
unborn_line format target named = record {
  no_error = no_error (reference_text (reference_of None (codes "HEAD") (Some target) None)) (λ e. omega arith);
  conveys = reference_reads_back format (reference_of None (codes "HEAD") (Some target) None) (λ id e. absurd (cc)) (λ id e. absurd (cc))
      (unborn_is_writable target named);
}

-- a line of the shallow boundary
boundary_line : (format : Format) (line : Boundary) → (boundary_object line).format ≡ format → IsOid (object_of line)
    → GivesLine shallow_place format (boundary_text line) (announced_boundary line ∷ [])
boundary_line format (Shallow id) of_format oid =
    record {
      no_error = no_error (codes "shallow " ++ hex_of id) (λ e. omega arith);
      conveys = boundary_reads_back format (Shallow id) (record { of_format = of_format; is_oid = oid });
    }
boundary_line format (Unshallow id) of_format oid =
    record {
      no_error = no_error (codes "unshallow " ++ hex_of id) (λ e. omega arith);
      conveys = boundary_reads_back format (Unshallow id) (record { of_format = of_format; is_oid = oid });
    }

-- the line of a reference that was requested by its name
wanted_line : (format : Format) (wanted : Wanted) → IsNameIn format wanted.id → IsRefName wanted.name
    → GivesLine wanted_place format (wanted_text wanted) (wanted_ref wanted ∷ [])
wanted_line format wanted in_format name =
    record { no_error = name_no_error format wanted.id _ in_format; conveys = wanted_reads_back format wanted in_format name }

-- the line of an object and its size
size_line_is : (format : Format) (id : ObjectName) (size : Option ℕ) → IsNameIn format id → ((bytes : ℕ) → size ≡ Some bytes → IsSize bytes)
    → GivesLine sizes format (info_text (record { id = id; size = size })) (info (record { id = id; size = size }) ∷ [])
size_line_is format id size in_format fits =
    record { no_error = name_no_error format id _ in_format; conveys = info_reads_back format (record { id = id; size = size }) in_format fits }

-- ---- references that are found by their names

-- a property of each reference holds of a found one
found_holds : (P : List ℕ → ObjectName → Type 0) (refs : List Entry) (name : List ℕ) (id : ObjectName) → All (λ ref. P ref.name ref.id) refs
    → found_ref refs name ≡ Some id → P name id
found_holds P [] name id all h = absurd (cc)
found_holds P (ref ∷ refs) name id all h =
    cond_both (bytes_eq ref.name name) (Some ref.id) (found_ref refs name) (λ (found : Option ObjectName). found ≡ Some id → P name id)
    (λ same here.
    let there : ref.id ≡ id = cc in
    rw ((bytes_eq-Decides ref.name name).0 same, there) at (All-head (λ (r : Entry). P r.name r.id) ref refs all))
    (λ other. found_holds P refs name id (All-tail (λ (r : Entry). P r.name r.id) ref refs all)) h

-- the packets of the wanted references are those of the references found
wanted_packets : (repo : Repository) (names : List (List ℕ))
    → filter_map (wanted_packet repo) names ≡ map (λ wanted. text_line (wanted_text wanted)) (found_refs repo names)
wanted_packets repo [] = refl
wanted_packets repo (name ∷ names) = go (wanted_packets repo names) (found_ref repo.refs name) where
  go : filter_map (wanted_packet repo) names ≡ map (λ wanted. text_line (wanted_text wanted)) (found_refs repo names) → (found : Option ObjectName)
      → cons_option (option_map (λ id. text_line (wanted_text (wanted_of id name))) found) (filter_map (wanted_packet repo) names)
      ≡ map (λ wanted. text_line (wanted_text wanted)) (cons_option (option_map (λ id. wanted_of id name) found) (found_refs repo names))
  go others None = others
  go others (Some id) = ap (λ (ps : List Pkt). text_line (wanted_text (wanted_of id name)) ∷ ps) others

-- a property of each reference that can be found holds of all those found
all_found : (P : Wanted → Type 0) (repo : Repository) → ((name : List ℕ) (id : ObjectName) → found_ref repo.refs name ≡ Some id → P (wanted_of id name))
    → (names : List (List ℕ)) → All P (found_refs repo names)
all_found P repo each names =
    All-filter_map P (λ name. option_map (λ id. wanted_of id name) (found_ref repo.refs name)) names (λ k d within. one _ (found_ref repo.refs _) refl) where
      one : (name : List ℕ) (found : Option ObjectName) → found_ref repo.refs name ≡ found → IfSome (option_map (λ id. wanted_of id name) found) P
      one name None is = tt
      one name (Some id) is = each name id is

-- a request that negotiates has no `done`
not_done : (some done : Bool) → (some && not done) ≡ true → (not done && true) ≡ true
not_done some done h = and_from (not done) true (and_parts some (not done) h).1 refl

module _ (t : Terms) (asked : List Asked) (repo : Repository) (sound : IsSound repo) (written : CanBeWritten repo) (same : repo.format ≡ t.format) where
  -- ---- the pack

  -- the section of the pack, and the end of the answer
  pack_gives : (bytes : List ℕ) (allowed : Allowed) (before packets : List Pkt) → IsPackfile whole bytes packets → IsExpected t asked before (Header allowed)
      → AnswerGives t asked before (packets ++ end_packets t.ending) (announced_packfile bytes ++ ended ∷ [])
  pack_gives bytes allowed before packets file is =
      let bands = file.ends.bands in
      let parts : packets ++ end_packets t.ending ≡ text_line (codes "packfile") ∷ (bands ++ (flush ∷ end_packets t.ending)) =
      simp (file.packets_are, file.ends.packets_are, append_assoc) in
      rw parts (header_gives t asked (codes "packfile") PackfileHeader allowed Packfile before _ _ is (no_error (codes "packfile") (λ e. omega arith)) refl refl
      refl
      (λ is. bands_give t asked bands bytes _ (flush ∷ end_packets t.ending) (ended ∷ []) file.ends.are_bands is
      (λ behind is. end_gives t.agent t.format t.ending asked behind Packfile tt is)))

  -- ---- the wanted references

  -- the event of each line
  wanted_lines : (names : List (List ℕ)) → All (λ wanted. GivesLine wanted_place t.format (wanted_text wanted) (wanted_ref wanted ∷ [])) (found_refs repo names)
  wanted_lines names =
      all_found (λ wanted. GivesLine wanted_place t.format (wanted_text wanted) (wanted_ref wanted ∷ [])) repo
      (λ name id found. wanted_line t.format (wanted_of id name)
      (found_holds (λ name id. IsNameIn t.format id) repo.refs name id
      (λ k d within. record { of_format = (sound.of_format k d within).by_id ∙ same; is_oid = (written.refs k d within).by_id }) found)
      (found_holds (λ name id. IsRefName name) repo.refs name id (λ k d within. (sound.named k d within).by_name) found)) names

  -- the section of wanted references, which is sent only if there are some, and then the pack
  refs_give : (names : List (List ℕ)) (bytes : List ℕ) (allowed : Allowed) (before others : List Pkt) → allowed.wanted_refs ≡ true
      → IsPackfile whole bytes others → IsExpected t asked before (Header allowed)
      → AnswerGives t asked before ((wanted_refs repo names ++ others) ++ end_packets t.ending)
      (announced_wanted repo names ++ (announced_packfile bytes ++ ended ∷ []))
  refs_give [] bytes allowed before others may file is = pack_gives bytes allowed before others file is
  refs_give (name ∷ names) bytes allowed before others may file is =
      let wanteds = found_refs repo (name ∷ names) in
      let lines = map (λ wanted. text_line (wanted_text wanted)) wanteds in
      let left : Allowed = record { acknowledgments = false; shallow_info = allowed.shallow_info; wanted_refs = false } in
      let parts : ((filter_map (wanted_packet repo) (name ∷ names) ++ delim ∷ []) ++ others) ++ end_packets t.ending
      ≡ lines ++ (delim ∷ (others ++ end_packets t.ending)) = rw (wanted_packets repo (name ∷ names)) (simp append_assoc) in
      rw parts (header_gives t asked (codes "wanted-refs") WantedRefsHeader allowed (WantedRefs left) before _ _ is
      (no_error (codes "wanted-refs") (λ e. omega arith)) refl may refl
      (λ is. lines_give t asked wanted_text wanted_ref (WantedRefs left) tt wanteds _ (delim ∷ (others ++ end_packets t.ending)) _ is
      (λ caps. wanted_lines (name ∷ names))
      (λ behind is. packet_gives t asked behind (WantedRefs left) delim [] (others ++ end_packets t.ending) _ is refl refl
      (λ is. pack_gives bytes left (delim ∷ behind) others file is))))

  -- ---- the shallow boundary

  -- the event of each line
  boundary_lines : (q : List Arg) → All (λ line. GivesLine shallow_place t.format (boundary_text line) (announced_boundary line ∷ [])) (repo.boundaries q)
  boundary_lines q k d within = boundary_line t.format _ (sound.boundaries_of_format q k d within ∙ same) (written.boundaries q k d within)

  -- what follows the lines of the boundary
  abbrev LaterGives : List Arg → List Pkt → Type 0
  LaterGives q others =
      (allowed : Allowed) (before : List Pkt) → allowed.wanted_refs ≡ true → IsExpected t asked before (Header allowed)
      → AnswerGives t asked before (others ++ end_packets t.ending)
      (announced_wanted repo (want_refs_in q) ++ (announced_packfile (repo.pack q) ++ ended ∷ []))

  later_gives : (q : List Arg) (packets : List Pkt) → EndsWithRefs whole repo q packets → LaterGives q packets
  later_gives q packets h allowed before may is =
      rw h.packets_are (refs_give (want_refs_in q) (repo.pack q) allowed before h.others may h.holds is)

  -- the section of the shallow boundary, which is sent only if the boundary has commits, and then the others
  boundary_gives : (lines : List Boundary) (allowed : Allowed) (before others : List Pkt) (later : List EventValue)
      → All (λ line. GivesLine shallow_place t.format (boundary_text line) (announced_boundary line ∷ [])) lines → allowed.shallow_info ≡ true
      → allowed.wanted_refs ≡ true → IsExpected t asked before (Header allowed)
      → ((left : Allowed) (behind : List Pkt) → left.wanted_refs ≡ true → IsExpected t asked behind (Header left)
      → AnswerGives t asked behind (others ++ end_packets t.ending) later)
      → AnswerGives t asked before ((shallow_info lines ++ others) ++ end_packets t.ending) (announced_boundaries lines ++ later)
  boundary_gives [] allowed before others later all may may_refs is then = then allowed before may_refs is
  boundary_gives (line ∷ lines) allowed before others later all may may_refs is then =
      let left : Allowed = record { acknowledgments = false; shallow_info = false; wanted_refs = allowed.wanted_refs } in
      let all_lines = line ∷ lines in
      let behind = delim ∷ (others ++ end_packets t.ending) in
      let parts : ((map boundary_packet lines ++ delim ∷ []) ++ others) ++ end_packets t.ending ≡ map boundary_packet lines ++ behind = simp append_assoc in
      rw parts (header_gives t asked (codes "shallow-info") ShallowInfoHeader allowed (ShallowInfo left) before (map boundary_packet all_lines ++ behind)
      (map announced_boundary all_lines ++ later) is (no_error (codes "shallow-info") (λ e. omega arith)) refl may refl
      (λ is. lines_give t asked boundary_text announced_boundary (ShallowInfo left) tt all_lines _ behind later is
      (λ caps. all)
      (λ behind is. packet_gives t asked behind (ShallowInfo left) delim [] (others ++ end_packets t.ending) later is refl refl
      (λ is. then left (delim ∷ behind) may_refs is))))

  -- the rest of the answer, from the section of the shallow boundary on
  rest_gives : (q : List Arg) (allowed : Allowed) (before packets : List Pkt) → EndsWithBoundary whole repo q packets → allowed.shallow_info ≡ true
      → allowed.wanted_refs ≡ true → IsExpected t asked before (Header allowed)
      → AnswerGives t asked before (packets ++ end_packets t.ending) (announced_pack repo q ++ ended ∷ [])
  rest_gives q allowed before packets h may may_refs is =
      let boundary = announced_boundaries (repo.boundaries q) in
      let wanted = announced_wanted repo (want_refs_in q) in
      let file = announced_packfile (repo.pack q) in
      let later = wanted ++ (file ++ ended ∷ []) in
      let events : announced_pack repo q ++ ended ∷ [] ≡ boundary ++ later =
      append_assoc (boundary ++ wanted) file (ended ∷ []) ∙ append_assoc boundary wanted (file ++ ended ∷ []) in
      rw (h.packets_are, events)
      (boundary_gives (repo.boundaries q) allowed before h.others later (boundary_lines q) may may_refs is (later_gives q h.others h.holds))

  -- ---- the acknowledgments

  -- neither `NAK` nor `ready` was sent so far
  abbrev announced_acks : Bool → Acks
  announced_acks any = record { any = any; nak = false; ready = false }

  -- a line for each object that both sides have: none of them is `NAK` or `ready`
  acks_give : (ids : List ObjectName) (any : Bool) (before ps : List Pkt) (later : List EventValue) → All (IsNameIn t.format) ids
      → IsExpected t asked before (Acknowledgments (announced_acks any))
      → ((announced : Acks) (behind : List Pkt) → announced.ready ≡ false → IsExpected t asked behind (Acknowledgments announced)
      → AnswerGives t asked behind ps later)
      → AnswerGives t asked before (map ack_packet ids ++ ps) (map ack ids ++ later)
  acks_give [] any before ps later all is then = then (announced_acks any) before refl is
  acks_give (id ∷ ids) any before ps later all is then =
      let one = All-head (IsNameIn t.format) id ids all in
      let gives : GivesLine (acknowledgments_at (announced_acks any)) t.format (ack_text id) (ack id ∷ []) =
      record { no_error = no_error (codes "ACK " ++ hex_of id) (λ e. omega arith); conveys = (ack_reads_back t.format id one, refl) } in
      packet_gives t asked before (Acknowledgments (announced_acks any)) (ack_packet id) (ack id ∷ []) (map ack_packet ids ++ ps) (map ack ids ++ later) is
      (of_text t asked (Acknowledgments (announced_acks any)) (caps_at t asked before) (ack_text id) (ack id ∷ []) gives) refl
      (λ behind. acks_give ids true (ack_packet id ∷ before) ps later (All-tail (IsNameIn t.format) id ids all)
      (rw (text_of-line_end (ack_text id)) at behind) then)

  -- a line for each object that both sides have, or `NAK` if there is none
  common_gives : (ids : List ObjectName) (before ps : List Pkt) (later : List EventValue) → All (IsNameIn t.format) ids
      → IsExpected t asked before (Acknowledgments (announced_acks false))
      → ((announced : Acks) (behind : List Pkt) → announced.ready ≡ false → IsExpected t asked behind (Acknowledgments announced)
      → AnswerGives t asked behind ps later)
      → AnswerGives t asked before (nak_or_acks ids ++ ps) (announced_common ids ++ later)
  common_gives [] before ps later all is then =
      packet_gives t asked before (Acknowledgments (announced_acks false)) (text_line (codes "NAK")) (nak ∷ []) ps later is
      (record { no_error = no_error (codes "NAK") (λ e. omega arith); conveys = (refl, refl) }) refl
      (λ behind. then _ (text_line (codes "NAK") ∷ before) refl behind)
  common_gives (id ∷ ids) before ps later all is then = acks_give (id ∷ ids) false before ps later all is then

  -- `ready` and the delimiter after it
  ready_gives : (announced : Acks) (before ps : List Pkt) (later : List EventValue) → announced.ready ≡ false
      → IsExpected t asked before (Acknowledgments announced)
      → ((behind : List Pkt) → IsExpected t asked behind (Header after_acknowledgments) → AnswerGives t asked behind ps later)
      → AnswerGives t asked before (ready_lines ++ ps) (ready ∷ later)
  ready_gives announced before ps later not_yet is then =
      packet_gives t asked before (Acknowledgments announced) (text_line (codes "ready")) (ready ∷ []) (delim ∷ ps) later is
      (record { no_error = no_error (codes "ready") (λ e. omega arith); conveys = (refl, not_yet) }) refl
      (λ is. packet_gives t asked (text_line (codes "ready") ∷ before) (Acknowledgments (acks_with announced (codes "ready"))) delim [] ps later is refl refl
      (λ is. then (delim ∷ text_line (codes "ready") ∷ before) is))

  -- ---- a fetch

  -- the acknowledgments, and then the pack if the repository is ready, or else nothing
  negotiated_gives : (is_ready : Bool) (q : List Arg) (allowed : Allowed) (before packets : List Pkt) → allowed.acknowledgments ≡ true
      → IsExpected t asked before (Header allowed) → All (IsNameIn t.format) (haves_in q) → IsNegotiated is_ready (acknowledgments repo q) whole repo q packets
      → AnswerGives t asked before (packets ++ end_packets t.ending)
      (section AcknowledgmentsHeader ∷ ((announced_common (common repo.has (haves_in q)) ++ announced_ready is_ready repo q) ++ ended ∷ []))
  negotiated_gives true q allowed before packets may is haves answer =
      let ids = common repo.has (haves_in q) in
      let behind = ready_lines ++ (answer.others ++ end_packets t.ending) in
      let later = announced_pack repo q ++ ended ∷ [] in
      let parts : packets ++ end_packets t.ending ≡ text_line (codes "acknowledgments") ∷ (nak_or_acks ids ++ behind) =
      rw answer.packets_are (append_assoc (acknowledgments repo q ++ ready_lines) answer.others (end_packets t.ending)
      ∙ append_assoc (acknowledgments repo q) ready_lines (answer.others ++ end_packets t.ending)) in
      rw (parts, append_assoc (announced_common ids) (ready ∷ announced_pack repo q) (ended ∷ []))
      (header_gives t asked (codes "acknowledgments") AcknowledgmentsHeader allowed (Acknowledgments (announced_acks false)) before
      (nak_or_acks ids ++ behind) (announced_common ids ++ (ready ∷ later)) is (no_error (codes "acknowledgments") (λ e. omega arith)) refl may refl
      (λ is. common_gives ids (text_line (codes "acknowledgments") ∷ before) behind (ready ∷ later)
      (All-filter repo.has (IsNameIn t.format) (haves_in q) haves) is
      (λ announced front not_yet is. ready_gives announced front (answer.others ++ end_packets t.ending) later not_yet is
      (λ front is. rest_gives q after_acknowledgments front answer.others answer.holds refl refl is))))
  negotiated_gives false q allowed before packets may is haves answer =
      let ids = common repo.has (haves_in q) in
      let last = flush ∷ end_packets t.ending in
      let parts : packets ++ end_packets t.ending ≡ text_line (codes "acknowledgments") ∷ (nak_or_acks ids ++ last) =
      rw answer (append_assoc (acknowledgments repo q) (flush ∷ []) (end_packets t.ending)) in
      rw (parts, append_assoc (announced_common ids) [] (ended ∷ []))
      (header_gives t asked (codes "acknowledgments") AcknowledgmentsHeader allowed (Acknowledgments (announced_acks false)) before
      (nak_or_acks ids ++ last) (announced_common ids ++ (ended ∷ [])) is (no_error (codes "acknowledgments") (λ e. omega arith)) refl may refl
      (λ is. common_gives ids (text_line (codes "acknowledgments") ∷ before) last (ended ∷ []) (All-filter repo.has (IsNameIn t.format) (haves_in q) haves) is
      (λ announced front not_yet is. end_gives t.agent t.format t.ending asked front (Acknowledgments announced) not_yet is)))

  -- the answer to a fetch that negotiates or not
  fetch_gives : (negotiates : Bool) (q : List Arg) (allowed : Allowed) (before packets : List Pkt) → (negotiates ≡ true → allowed.acknowledgments ≡ true)
      → allowed.shallow_info ≡ true → allowed.wanted_refs ≡ true → IsExpected t asked before (Header allowed) → All (IsNameIn t.format) (haves_in q)
      → IsFetchAnswerBy negotiates whole repo q packets
      → AnswerGives t asked before (packets ++ end_packets t.ending) (announced_fetch negotiates repo q ++ ended ∷ [])
  fetch_gives true q allowed before packets may may_boundary may_refs is haves answer =
      negotiated_gives (is_ready_for repo q) q allowed before packets (may refl) is haves answer
  fetch_gives false q allowed before packets may may_boundary may_refs is haves answer =
      rest_gives q allowed before packets answer may_boundary may_refs is

  -- ---- references

  -- an unborn `HEAD`, if there is one and the request asks for it, and then the others
  unborn_gives : (q : List Arg) (head : Option (List ℕ)) (before ps : List Pkt) (later : List EventValue) → ForSome head (IsUnbornHead repo.refs)
      → IsExpected t asked before References → ((behind : List Pkt) → IsExpected t asked behind References → AnswerGives t asked behind ps later)
      → AnswerGives t asked before (unborn_packets q head ++ ps) (announced_unborn q head ++ later)
  unborn_gives q None before ps later sound is others = others before is
  unborn_gives q (Some target) before ps later sound is others = go (asks_for_unborn q) where
    go : (asks : Bool) → AnswerGives t asked before (cond asks (unborn_packet target ∷ []) [] ++ ps)
        (cond asks (reference (reference_of None (codes "HEAD") (Some target) None) ∷ []) [] ++ later)
    go false = others before is
    go true =
        let text = λ (to : List ℕ). reference_text (reference_of None (codes "HEAD") (Some to) None) in
        let event = λ (to : List ℕ). reference (reference_of None (codes "HEAD") (Some to) None) in
        let line_gives = λ (to : List ℕ). GivesLine references t.format (text to) (event to ∷ []) in
        lines_give t asked text event References tt (target ∷ []) before ps later is
        (λ caps. All-cons line_gives target [] (unborn_line t.format target (sound target refl).named) (All-nil line_gives)) others

  -- the answer to ls-refs
  listing_gives : (q : List Arg) (before packets : List Pkt) → IsExpected t asked before References → packets ≡ ls_refs_answer q repo
      → AnswerGives t asked before (packets ++ end_packets t.ending) (announced_refs repo q ++ ended ∷ [])
  listing_gives q before packets is answer =
      let line = λ (entry : Entry). reference_text (shown_line (symrefs_in q) (peel_in q) entry) in
      let event = λ (entry : Entry). reference (shown_line (symrefs_in q) (peel_in q) entry) in
      let shown = shown_refs (ref_prefixes_in q) repo.refs in
      let lines = map (reference_packet (symrefs_in q) (peel_in q)) shown in
      let last = end_packets t.ending in
      let head = unborn_packets q repo.unborn_head in
      let all : All (λ entry. GivesLine references t.format (line entry) (event entry ∷ [])) repo.refs =
      λ k d within. reference_line t.format (symrefs_in q) (peel_in q) _ (sound.named k d within)
      (rw same at (sound.of_format k d within)) (written.refs k d within) in
      let parts : packets ++ last ≡ head ++ (lines ++ (flush ∷ last)) = rw answer (simp append_assoc) in
      rw (parts, append_assoc (announced_unborn q repo.unborn_head) (map event shown) (ended ∷ []))
      (unborn_gives q repo.unborn_head before (lines ++ (flush ∷ last)) (map event shown ++ ended ∷ []) sound.unborn is
      (λ behind is. lines_give t asked line event References tt shown behind (flush ∷ last) (ended ∷ []) is
      (λ caps. All-filter (λ entry. is_shown (ref_prefixes_in q) entry.name)
      (λ entry. GivesLine references t.format (line entry) (event entry ∷ [])) repo.refs all)
      (λ after is. end_gives t.agent t.format t.ending asked after References tt is)))

  -- ---- sizes

  -- the answer to object-info
  sizes_give : (q : List Arg) (before packets : List Pkt) → IsExpected t asked before SizeLine → All (IsNameIn t.format) (oids_in q)
      → packets ≡ object_info_answer q repo → AnswerGives t asked before (packets ++ end_packets t.ending) (announced_sizes repo q ++ ended ∷ [])
  sizes_give q before packets is oids answer =
      let announced : ObjectName → Info = λ id. record { id = id; size = repo.object_size id } in
      let last = flush ∷ end_packets t.ending in
      let parts : packets ++ end_packets t.ending ≡ text_line (codes "size") ∷ (map (info_packet repo) (oids_in q) ++ last) = rw answer (simp append_assoc) in
      rw parts (packet_gives t asked before SizeLine (text_line (codes "size")) [] (map (info_packet repo) (oids_in q) ++ last)
      (announced_sizes repo q ++ ended ∷ []) is
      (record { no_error = no_error (codes "size") (λ e. omega arith); conveys = refl }) refl
      (λ is. lines_give t asked (λ id. info_text (announced id)) (λ id. info (announced id)) Sizes tt (oids_in q) (text_line (codes "size") ∷ before) last
      (ended ∷ []) is
      (λ caps k d within. size_line_is t.format _ _ (oids k d within) (written.sizes _))
      (λ behind is. end_gives t.agent t.format t.ending asked behind Sizes tt is)))

  -- ---- each answer

  -- the answer to a request, when it is expected
  pub answer_gives : (q : Asked) (before packets : List Pkt) → IsExpected t asked before (first_expected q) → AsksIn t.format q → IsAnswer repo q packets
      → AnswerGives t asked before (packets ++ end_packets t.ending) (announced_by repo q ++ ended ∷ [])
  answer_gives (ls_refs q) before packets is asks answer = listing_gives q before packets is answer
  answer_gives (fetch q) before packets is asks answer =
      let ends = not_done (not (is_empty (haves_in q)) || flag_among q Flag.WaitForDone) (done_in q) in
      fetch_gives (negotiates q) q (allowed_after (done_in q) []) before packets ends refl refl is asks answer
  answer_gives (object_info q) before packets is asks answer = sizes_give q before packets is asks answer

-- an answer gives its events after any requests, and the next one may come after it
module _ (t : Terms) (repo : Repository) (earlier : List Asked) (q : Asked) (before packets : List Pkt) (gs : List Given) (sound : IsSound repo)
    (written : CanBeWritten repo) (same : repo.format ≡ t.format) (asks : AsksIn t.format q) (answer : IsAnswer repo q packets)
    (before_whole : AreWhole t earlier before) (cut : packets_of gs ≡ packets ++ end_packets t.ending) where
  -- the events of its packets, and that it is whole after them
  given : AnswerGives t (earlier ++ q ∷ []) before (packets_of gs) (announced_by repo q ++ ended ∷ [])
  given =
      let asked = earlier ++ q ∷ [] in
      let is = expected_stated t asked before q (record { earlier = earlier; last = q; asked_is = refl; question_is = refl; whole = before_whole }) in
      rw cut (answer_gives t asked repo sound written same q before packets is asks answer)

  -- the same, whatever was asked later
  pub arrived : (later : List Asked) → GiveAll t (earlier ++ q ∷ later) before gs (announced_by repo q ++ ended ∷ [])
  arrived later =
      let events = announced_by repo q ++ ended ∷ [] in
      rw (append_assoc earlier (q ∷ []) later) at
      (gives_more t (earlier ++ q ∷ []) later before gs events (given_give t (earlier ++ q ∷ []) before gs events given))

  -- the next answer may come
  pub whole_after : AreWhole t (earlier ++ q ∷ []) (nearest gs before)
  whole_after = given_whole t (earlier ++ q ∷ []) before gs (announced_by repo q ++ ended ∷ []) given
