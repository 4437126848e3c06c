-- A request that wants what the store lacks: a host refuses it at its flush, and a server over a repository at the line.
use Rattle.std.proofs.Common.{◌≡◌, ◌≢◌, ◌⊎◌, ℕ, ◌+◌, Bool, true, false, if◌then◌else◌, All, IfSome, List, [], ◌∷◌, ◌++◌, length, map, take, Option, Some, None}
use Rattle.std.proofs.Common.{option_to_list, refl, sym, ap, ◌∙◌, append_assoc, append-nil, subst, inl, inr}
use Rattle.std.specs.List.{cons_option, filter_map}
use Rattle.std.proofs.lemmas.List.Elements.{All-append, All-cons, All-head, All-map, All-nil, All-tail, filter_passes}
use Rattle.git_names.specs.ObjectName.{ObjectName}
use Rattle.git_names.specs.declared.object_format.Format.{Format}
use Rattle.git_pkt.specs.Packets.{Pkt}
use Rattle.git_pkt.specs.Splits.{Given, SpellsAll}
use Rattle.git_pkt.specs.declared.fault.Fault.{Fault}
use Rattle.git_pkt.specs.declared.fault.Kind.{Kind}
use Rattle.git_pkt.specs.declared.fault.Kind.TheVariants.{NotOurs, PackSource, UnknownRef}
use Rattle.git_msg.specs.declared.offers.Offer.{Offer}
use Rattle.git_msg.specs.Admission.{AreAdmitted, IsAdmitted, IsBarred}
use Rattle.git_msg.specs.Arguments.{Arg, with_id, with_text}
use Rattle.git_msg.specs.declared.words.ObjectWord.{ObjectWord}
use Rattle.git_msg.specs.declared.words.TextWord.{TextWord}
use Rattle.git_msg.specs.declared.words.Word.{Word}
use Rattle.git_msg.specs.declared.words.Word.TheVariants.{Object as of_object}
use Rattle.git_msg.specs.Asked.{Asked, all_or_last, arguments_in, asked_by, counting, fetch, id_in, id_of, is_of, last_alone, last_counts, ls_refs}
use Rattle.git_msg.specs.Asked.{object_info, of_word, want_refs_in, wants_in, written}
use Rattle.git_msg.specs.declared.arguments.Command.{Command}
use Rattle.git_msg.specs.declared.arguments.Command.TheVariants.{LsRefs, Fetch, ObjectInfo}
use Rattle.git_msg.specs.Lines.{Line, argument_in, arguments_of, kept_arguments, options_of}
use Rattle.git_msg.specs.Requests.{AreLines, Asks}
use Rattle.git_msg.specs.WholeRequests.{AreRequests}
use Rattle.git_msg.specs.Machine.RequestStreams.{AreAsked, IsOne}
use Rattle.git_msg.proofs.LineLaws.{argument_payload}
use Rattle.git_msg.proofs.LineLists.{arguments_snoc, lines_snoc}
use Rattle.git_msg.proofs.WholeRequests.{last_request}
use Rattle.git_msg.proofs.WrittenArguments.{by_value, found}
use Rattle.git_server.specs.Admission.{HasAsked, barred, barred_ref}
use Rattle.git_server.specs.Answers.{AllFit, error_packet, spelled}
use Rattle.git_server.specs.Repository.{Repository, found_ref}
use Rattle.git_server.specs.Sessions.{IsTailBy as IsServersTail, Setting}
use Rattle.git_server.proofs.Admitted.{request_had}
use Rattle.git_server.proofs.Sent.{spelled_both}
use Rattle.git_host.specs.Admissions.{all_there}
use Rattle.git_host.specs.HostSessions.{Facts, HostSetting, IsTailBy, RefusesLast, advertised, nothing_for, of_fetch, of_references}
use Rattle.git_host.specs.HostSessions.{of_sizes}
use Rattle.git_store.specs.HostedRepository.{IsLackedByRepository, IsReportedUpTo, RefusesAtItsLine, over_repository}
use Rattle.git_store.proofs.HostedAnswers.{all_answers, as_answers, as_requests, has_all}

-- ---- a repository that answers so lacks something

holds_at : {X : Type 0} (P : X → Type 0) (front : List X) (x : X) (more : List X) → All P (front ++ (x ∷ more)) → P x
holds_at P [] x more all = All-head P x more all
holds_at P (y ∷ front) x more all = holds_at P front x more (All-tail P y (front ++ (x ∷ more)) all)

found_by : {Y : Type 0} (P : Y → Type 0) (o : Option Y) (ys : List Y) → All P (cons_option o ys) → IfSome o P × All P ys
found_by P None ys all = (tt, all)
found_by P (Some y) ys all = (All-head P y ys all, All-tail P y ys all)

-- what holds of all that is found holds of each that is
each_found : {X Y : Type 0} (P : Y → Type 0) (h : X → Option Y) (xs : List X) → All P (filter_map h xs) → All (λ x. IfSome (h x) P) xs
each_found P h [] all = All-nil (λ x. IfSome (h x) P)
each_found P h (x ∷ xs) all =
    let (one, others) = found_by P (h x) (filter_map h xs) all in All-cons (λ y. IfSome (h y) P) x xs one (each_found P h xs others)

not_had : (repo : Repository) (kind : Kind) (q : Asked) (f : Facts) → IsLackedByRepository repo kind q f → HasAsked repo q → ⊥
not_had repo NotOurs (fetch q) (of_fetch a t) (lacks, (more, cut), found) (had, refs) =
    let all = All-map (λ (b : Bool). b ≡ true) repo.has (wants_in q) had in
    let here = subst (λ (bs : List Bool). All (λ b. b ≡ true) bs)
    (cut ∙ ap (λ (l : List Bool). l ++ more) lacks.wants ∙ append_assoc (all_there (take lacks.at (wants_in q))) (false ∷ []) more) all in
    let both = holds_at (λ (b : Bool). b ≡ true) (all_there (take lacks.at (wants_in q))) false more here in
    absurd (cc)
not_had repo UnknownRef (fetch q) (of_fetch a t) (lacks, wants, (more, cut)) (had, refs) =
    let all = All-map (λ (o : Option ObjectName). o ≢ None) (found_ref repo.refs) (want_refs_in q) refs in
    let here = subst (λ (os : List (Option ObjectName)). All (λ o. o ≢ None) os)
    (cut ∙ ap (λ (l : List (Option ObjectName)). l ++ more) lacks.found ∙ append_assoc (map Some lacks.ids) (None ∷ []) more) all in
    holds_at (λ (o : Option ObjectName). o ≢ None) (map Some lacks.ids) None more here refl
not_had repo kind (fetch q) (of_fetch a t) (lacks, wants, found) had = absurd lacks
not_had repo kind (fetch q) (of_references t) lacks had = absurd lacks
not_had repo kind (fetch q) (of_sizes sizes) lacks had = absurd lacks
not_had repo kind (ls_refs q) f lacks had = absurd lacks
not_had repo kind (object_info q) f lacks had = absurd lacks

-- ---- and refuses the first line that wants it

abbrev IsOfRepositorys : Kind → Type 0
IsOfRepositorys kind = (kind ≡ NotOurs) ⊎ (kind ≡ UnknownRef)

barred_want : (b : Bool) (kind : Kind) → (if b then None else Some NotOurs) ≡ Some kind → kind ≡ NotOurs
barred_want true kind is = absurd (cc)
barred_want false kind is = cc

barred_name : (o : Option ObjectName) (kind : Kind) → barred_ref o ≡ Some kind → kind ≡ UnknownRef
barred_name (Some id) kind is = absurd (cc)
barred_name None kind is = cc

refusal_name : (repo : Repository) (arg : Arg) (kind : Kind) → barred repo arg ≡ Some kind → IsOfRepositorys kind
refusal_name repo (with_id ObjectWord.Want id) kind is = inl (barred_want (repo.has id) kind is)
refusal_name repo (with_text TextWord.WantRef name) kind is = inr (barred_name (found_ref repo.refs name) kind is)
refusal_name repo arg kind is = absurd (cc)

-- what holds of two lists holds of the second
all_behind : {X : Type 0} (P : X → Type 0) (xs ys : List X) → All P (xs ++ ys) → All P ys
all_behind P [] ys all = all
all_behind P (x ∷ xs) ys all = all_behind P xs ys (All-tail P x (xs ++ ys) all)

-- where it has all objects that are wanted, that is a reference
barred_had : (b : Bool) (kind : Kind) → b ≡ true → (if b then None else Some NotOurs) ≡ Some kind → ⊥
barred_had true kind had is = cc
barred_had false kind had is = cc

refuses_reference : (repo : Repository) (arg : Arg) (kind : Kind) → barred repo arg ≡ Some kind
    → IfSome (id_in ObjectWord.Want arg) (λ id. repo.has id ≡ true) → kind ≡ UnknownRef
refuses_reference repo (with_id ObjectWord.Want id) kind is had = absurd (barred_had (repo.has id) kind had is)
refuses_reference repo (with_text TextWord.WantRef name) kind is had = barred_name (found_ref repo.refs name) kind is
refuses_reference repo arg kind is had = absurd (cc)

-- what counts of a word's arguments has the word
own_last : (word : Word) (args : List Arg) → All (λ arg. is_of word arg ≡ true) args → All (λ arg. is_of word arg ≡ true) (last_alone args)
own_last word [] all = all
own_last word (arg ∷ []) all = all
own_last word (arg ∷ next ∷ args) all = own_last word (next ∷ args) (All-tail (λ (x : Arg). is_of word x ≡ true) arg (next ∷ args) all)

own_counting : (word : Word) (last : Bool) (args : List Arg) → All (λ arg. is_of word arg ≡ true) args
    → All (λ arg. is_of word arg ≡ true) (all_or_last last args)
own_counting word true args all = own_last word args all
own_counting word false args all = all

-- so the objects that arguments want are those that they want as they are written
wants_written : (args : List Arg) → wants_in (written args) ≡ wants_in args
wants_written args =
    by_value id_of (of_object ObjectWord.Want) (written args)
    ∙ ap (filter_map id_of) (found (λ word. counting word args)
    (λ word. own_counting word (last_counts word) (of_word word args) (filter_passes (is_of word) args)) (of_object ObjectWord.Want))
    ∙ sym (by_value id_of (of_object ObjectWord.Want) args)

wants_among : (q : List Arg) (c : Command) (args : List Arg) → fetch q ≡ asked_by c args → wants_in q ≡ wants_in args
wants_among q LsRefs args same = absurd (cc)
wants_among q Fetch args same = ap (λ (asked : Asked). wants_in (arguments_in asked)) same ∙ wants_written args
wants_among q ObjectInfo args same = absurd (cc)

name_at_line : (repo : Repository) (kind : Kind) (q : Asked) (f : Facts) (c : Command) (args : List Arg) (arg : Arg) (name : Kind)
    → IsLackedByRepository repo kind q f → q ≡ asked_by c args → ((P : Arg → Type 0) → All P args → P arg) → barred repo arg ≡ Some name
    → (name ≡ kind) ⊎ (name ≡ UnknownRef)
name_at_line repo NotOurs q f c args arg name lacks same there refuses = refusal_name repo arg name refuses
name_at_line repo UnknownRef (fetch q) (of_fetch a t) c args arg name (lacks, (more, cut), found) same there refuses =
    let had = has_all repo.has (wants_in q) more (cut ∙ ap (λ (l : List Bool). l ++ more) lacks.there) in
    let among = subst (All (λ (id : ObjectName). repo.has id ≡ true)) (wants_among q c args same) had in
    inr (refuses_reference repo arg name refuses
    (there (λ x. IfSome (id_in ObjectWord.Want x) (λ id. repo.has id ≡ true))
    (each_found (λ (id : ObjectName). repo.has id ≡ true) (id_in ObjectWord.Want) args among)))
name_at_line repo UnknownRef (fetch q) (of_references t) c args arg name lacks same there refuses = absurd lacks
name_at_line repo UnknownRef (fetch q) (of_sizes sizes) c args arg name lacks same there refuses = absurd lacks
name_at_line repo UnknownRef (ls_refs q) f c args arg name lacks same there refuses = absurd lacks
name_at_line repo UnknownRef (object_info q) f c args arg name lacks same there refuses = absurd lacks
name_at_line repo kind (fetch q) (of_fetch a t) c args arg name lacks same there refuses = absurd lacks.0
name_at_line repo kind (fetch q) (of_references t) c args arg name lacks same there refuses = absurd lacks
name_at_line repo kind (fetch q) (of_sizes sizes) c args arg name lacks same there refuses = absurd lacks
name_at_line repo kind (ls_refs q) f c args arg name lacks same there refuses = absurd lacks
name_at_line repo kind (object_info q) f c args arg name lacks same there refuses = absurd lacks

module _ (offer : Offer) (limit : ℕ) (bars : Arg → Option Kind) where
  -- the first of the lines whose argument is refused
  record FirstBarred (gs : List Given) (all : List Line) : Type 0 where
    front : List Given
    line : Given
    more : List Given
    cut : gs ≡ front ++ (line ∷ more)
    lines : List Line
    taken : AreLines offer limit [] front lines
    admitted : AreAdmitted bars lines
    kind : Kind
    is_barred : IsBarred offer bars lines line.packet kind
    own : Line
    behind : List Line
    all_is : all ≡ lines ++ (own ∷ behind)
    there : argument_in own ≡ Some is_barred.arg

  one_more : (before : List Line) (line : Line) → AreAdmitted bars before → All (IsAdmitted bars) (option_to_list (argument_in line))
      → AreAdmitted bars (before ++ line ∷ [])
  one_more before line admitted last =
      subst (All (IsAdmitted bars)) (sym (arguments_snoc before line))
      (All-append (IsAdmitted bars) (arguments_of before) (option_to_list (argument_in line)) admitted last)

  first_barred : (done gs : List Given) (before lines : List Line) → AreLines offer limit [] done before → AreAdmitted bars before
      → AreLines offer limit before gs lines → ¬ AreAdmitted bars (before ++ lines)
      → FirstBarred (done ++ gs) (before ++ lines)
  first_barred done [] before [] taken admitted are lacking = absurd (lacking (subst (AreAdmitted bars) (sym (append-nil before)) admitted))
  first_barred done [] before (l ∷ ls) taken admitted are lacking = absurd are
  first_barred done (g ∷ gs) before [] taken admitted are lacking = absurd are
  first_barred done (g ∷ gs) before (l ∷ ls) taken admitted are lacking =
      by (argument_in l) refl (λ last.
      let now = lines_snoc offer limit [] done before g l taken are.0 in
      subst (FirstBarred (done ++ (g ∷ gs))) (append_assoc before (l ∷ []) ls)
      (subst (λ (ps : List Given). FirstBarred ps ((before ++ l ∷ []) ++ ls)) (append_assoc done (g ∷ []) gs)
      (first_barred (done ++ g ∷ []) gs (before ++ l ∷ []) ls now (one_more before l admitted last) are.1
      (λ all. lacking (subst (AreAdmitted bars) (append_assoc before (l ∷ []) ls) all)))))
    where
      at : (arg : Arg) → argument_in l ≡ Some arg
          → (All (IsAdmitted bars) (option_to_list (argument_in l)) → FirstBarred (done ++ (g ∷ gs)) (before ++ (l ∷ ls)))
          → (o : Option Kind) → bars arg ≡ o → FirstBarred (done ++ (g ∷ gs)) (before ++ (l ∷ ls))
      at arg there later None fine =
          later (subst (λ (o : Option Arg). All (IsAdmitted bars) (option_to_list o)) (sym there)
          (All-cons (IsAdmitted bars) arg [] fine (All-nil (IsAdmitted bars))))
      at arg there later (Some kind) refuses =
          let h = argument_payload offer limit before g.packet l arg are.0 there in
          record {
            front = done;
            line = g;
            more = gs;
            cut = refl;
            lines = before;
            taken = taken;
            admitted = admitted;
            kind = kind;
            is_barred = record {
              bytes = h.bytes;
              arg = arg;
              behind = h.behind;
              data_packet = h.data_packet;
              is_text = h.is_text;
              refuses = refuses;
            };
            own = l;
            behind = ls;
            all_is = refl;
            there = there;
          }

      by : (o : Option Arg) → argument_in l ≡ o → (All (IsAdmitted bars) (option_to_list (argument_in l)) → FirstBarred (done ++ (g ∷ gs)) (before ++ (l ∷ ls)))
          → FirstBarred (done ++ (g ∷ gs)) (before ++ (l ∷ ls))
      by None there later = later (subst (λ (o : Option Arg). All (IsAdmitted bars) (option_to_list o)) (sym there) (All-nil (IsAdmitted bars)))
      by (Some arg) there later = at arg there later (bars arg) refl

holds_of : {X : Type 0} (P : X → Type 0) (o : Option X) (x : X) → o ≡ Some x → IfSome o P → P x
holds_of P None x is h = absurd (cc)
holds_of P (Some y) x is h = let same : y ≡ x = cc in subst P same h

-- the bytes up to a packet
spelled_up_to : (p : ℕ) (bytes : List ℕ) (gs more : List Given) (rest : List ℕ) → SpellsAll p bytes (gs ++ more) rest
    → (first : List ℕ) × (later : List ℕ) × (bytes ≡ first ++ later) × SpellsAll p first gs []
spelled_up_to p bytes [] more rest h = ([], bytes, refl, refl)
spelled_up_to p bytes (g ∷ gs) more rest (own, others, cut, at, spells, tail) =
    let (first, later, parts, is) = spelled_up_to (p + length own) others gs more rest tail in
    (own ++ first, later, cut ∙ ap (λ (l : List ℕ). own ++ l) parts ∙ sym (append_assoc own first later), (own, first, refl, at, spells, is))

-- the same requests, with other packets left
other_left : (IsRequest : List Given → Asked → Type 0) (packets : List Given) (asked : List Asked) (left : List Given)
    → AreRequests IsRequest packets asked left
    → (before : List Given) × (packets ≡ before ++ left) × ((other : List Given) → AreRequests IsRequest (before ++ other) asked other)
other_left IsRequest packets [] left same = ([], same, λ other. refl)
other_left IsRequest packets (q ∷ qs) left (front, more, whole, one, rest) =
    let (before, parts, is) = other_left IsRequest more qs left rest in (
      front ++ before,
      whole ∙ ap (λ (gs : List Given). front ++ gs) parts ∙ sym (append_assoc front before left),
      λ other. (front, before ++ other, append_assoc front before other, one, is other),
    )

-- ---- the error packet

refusal_of : (kind : Kind) (s : Setting) (left : List Given) (fault : Fault) → IsOfRepositorys kind → IsServersTail kind s left fault (error_packet fault ∷ [])
refusal_of kind s left fault (inl is) = subst (λ (k : Kind). IsServersTail k s left fault (error_packet fault ∷ [])) (sym is) refl
refusal_of kind s left fault (inr is) = subst (λ (k : Kind). IsServersTail k s left fault (error_packet fault ∷ [])) (sym is) refl

some_more : {X : Type 0} (xs : List X) (x : X) → [] ≡ xs ++ x ∷ [] → ⊥
some_more [] x is = cc
some_more (y ∷ xs) x is = cc

no_text : (q : Asked) (f : Facts) (repo : Repository) → IsLackedByRepository repo NotOurs q f → f ≡ nothing_for q → ⊥
no_text (fetch q) f repo lacks is =
    let none = subst (IsLackedByRepository repo NotOurs (fetch q)) is lacks in some_more (all_there (take none.0.at (wants_in q))) false none.0.wants
no_text (ls_refs q) f repo lacks is = absurd (subst (IsLackedByRepository repo NotOurs (ls_refs q)) is lacks)
no_text (object_info q) f repo lacks is = absurd (subst (IsLackedByRepository repo NotOurs (object_info q)) is lacks)

lacking_tail : (kind : Kind) (format : Format) (fault : Fault) (q : Asked) (f : Facts) (tail : List Pkt) (repo : Repository)
    → IsLackedByRepository repo kind q f → IsTailBy kind format fault q f tail → tail ≡ error_packet fault ∷ []
lacking_tail NotOurs format fault q f tail repo lacks (inl h) = h.1
lacking_tail NotOurs format fault q f tail repo lacks (inr (text, none, is)) = absurd (no_text q f repo lacks none)
lacking_tail UnknownRef format fault q f tail repo lacks h = h.1
lacking_tail PackSource format fault (fetch q) (of_fetch a t) tail repo lacks h = absurd lacks.0
lacking_tail PackSource format fault (fetch q) (of_references t) tail repo lacks h = absurd lacks
lacking_tail PackSource format fault (fetch q) (of_sizes sizes) tail repo lacks h = absurd lacks
lacking_tail PackSource format fault (ls_refs q) f tail repo lacks h = absurd lacks
lacking_tail PackSource format fault (object_info q) f tail repo lacks h = absurd lacks
lacking_tail kind format fault q f tail repo lacks h = absurd h

front_fits : (front back : List Pkt) → AllFit (front ++ back) → AllFit front
front_fits [] back h = tt
front_fits (p ∷ ps) back h = (h.0, front_fits ps back h.1)

module _ (s : HostSetting) (repo : Repository) (failures : ℕ) (used : List ℕ) (reported : List Facts) (given : List ℕ) (fault : Fault)
    (of : IsReportedUpTo (IsLackedByRepository repo fault.kind) s repo used reported) where
  pub at_its_line : RefusesLast s used reported given fault → RefusesAtItsLine (over_repository s repo failures) used given fault
  at_its_line h =
      let l = h.last in
      let are = subst (λ (qs : List Asked). AreAsked s.offer s.limit used qs [] []) l.asked_is h.are_asked in
      let (reports, lacks) = of l.earlier l.q l.earlier_reported l.f are l.reported_is in
      let taken = last_request (IsOne s.offer s.limit) are.packets l.earlier l.q are.requests in
      let asks = taken.is_one.1 in
      let first = first_barred s.offer s.limit (barred repo) [] asks.front [] asks.lines tt (All-nil (IsAdmitted (barred repo))) asks.taken
      (λ all. not_had repo fault.kind l.q l.f lacks (request_had s.offer s.limit repo asks.front asks.last asks.lines l.q taken.is_one.0 asks.taken all
      (subst (λ (gs : List Given). Asks s.offer s.limit gs l.q taken.is_one.0) asks.whole asks))) in
      let requests = as_requests s repo failures are.packets taken.left l.earlier l.earlier_reported l.answers taken.earlier reports l.answered in
      let (before, parts, with_left) = other_left _ are.packets l.earlier taken.left requests in
      let left : List Given = first.front ++ first.line ∷ [] in
      let cut_own : taken.left ≡ left ++ (first.more ++ asks.last ∷ []) =
      asks.whole ∙ ap (λ (gs : List Given). gs ++ asks.last ∷ []) first.cut ∙ append_assoc first.front (first.line ∷ first.more) (asks.last ∷ [])
      ∙ sym (append_assoc first.front (first.line ∷ []) (first.more ++ asks.last ∷ [])) in
      let all_packets : are.packets ≡ (before ++ left) ++ (first.more ++ asks.last ∷ []) =
      parts ∙ ap (λ (gs : List Given). before ++ gs) cut_own ∙ sym (append_assoc before left (first.more ++ asks.last ∷ [])) in
      let (bytes, later, cut, spells) = spelled_up_to 0 used (before ++ left) (first.more ++ asks.last ∷ []) []
      (subst (λ (gs : List Given). SpellsAll 0 used gs []) all_packets are.splits.spelled) in
      let line : Fault = record { kind = first.kind; offset = first.line.offset } in
      let named = refusal_name repo first.is_barred.arg first.kind first.is_barred.refuses in
      let tail = lacking_tail fault.kind s.offer.format fault l.q l.f l.front repo lacks l.last in
      let none : (advertised s ++ l.answers) ++ [] ≡ advertised s ++ l.answers = append-nil (advertised s ++ l.answers) in
      record {
        before = spelled (advertised s ++ l.answers);
        given_is = l.given_is ∙ ap spelled (sym (append_assoc (advertised s) l.answers l.front))
            ∙ spelled_both (advertised s ++ l.answers) l.front
            ∙ ap (λ (ps : List Pkt). spelled (advertised s ++ l.answers) ++ spelled ps) tail
            ∙ ap (λ (bytes : List ℕ). spelled (advertised s ++ l.answers) ++ bytes) (append-nil _);
        first = bytes;
        later = later;
        cut = cut;
        line = line;
        name = name_at_line repo fault.kind l.q l.f asks.command (kept_arguments asks.lines) first.is_barred.arg first.kind lacks asks.asked_is
            (λ P all. holds_of P (argument_in first.own) first.is_barred.arg first.there
            (holds_at (λ (x : Line). IfSome (argument_in x) P) first.lines first.own first.behind
            (subst (All (λ (x : Line). IfSome (argument_in x) P)) first.all_is
            (each_found P argument_in asks.lines (all_behind P (options_of asks.lines) (arguments_of asks.lines) all)))))
            first.is_barred.refuses;
        ends = record {
          asked = l.earlier;
          left = left;
          rest = [];
          answers = l.answers;
          sent = [];
          stream = record {
            packets = before ++ left;
            splits = record { spelled = spells; ends = are.splits.ends };
            requests = with_left left;
          };
          ends = inl (inl (record {
            front = first.front;
            last = first.line;
            whole = refl;
            begins = record { lines = first.lines; taken = first.taken; admitted = first.admitted };
            announced = inl (record {
              front = first.front;
              last = first.line;
              lines = first.lines;
              whole = refl;
              taken = first.taken;
              is_barred = first.is_barred;
              at = refl;
            });
            no_rest = refl;
          }));
          answered = all_answers s.offer.format repo l.earlier l.earlier_reported l.answers (as_answers s repo failures l.earlier l.earlier_reported reports)
              l.answered;
          parts = refusal_of first.kind (over_repository s repo failures) left line named;
          given_is = ap spelled (sym none);
          fit = subst AllFit (sym none) (front_fits (advertised s ++ l.answers) l.front
              (subst AllFit (sym (append_assoc (advertised s) l.answers l.front)) l.fit));
        };
      }
