-- How a greeting is put together, and taken apart at its NULs.
use Rattle.std.proofs.Common.{arith, ◌≡◌, ◌≢◌, ◌∙◌, ℕ, zero, suc, ◌+◌, Bool, true, false, ◌||◌, ◌==◌, List, [], ◌∷◌, ◌++◌, Option, Some, None, Bor, codes}
use Rattle.std.proofs.Common.{length, get_or, drop, is_some, sym, ap, subst, refl, length-append, append_assoc}
use Rattle.std.proofs.lemmas.Bool.Decides.{nat_tests}
use Rattle.std.proofs.lemmas.List.{append-nil, nil_from_length}
use Rattle.std.proofs.lemmas.List.Folds.{list_any-append}
use Rattle.std.specs.Option.{option_copied}
use Rattle.std.specs.List.{list_any}
use Rattle.std.specs.Str.{bytes_eq}
use Rattle.git_names.specs.RefName.{Lacks}
use Rattle.git_msg.specs.Texts.{BeginsOtherThan, IsCutAt, IsPartedAt}
use Rattle.git_msg.proofs.TextParts.{no_such_byte, one_parting, parted_has_byte}
use Rattle.gitwire.specs.Greetings.{AreNoParameters, AreParameters, AreParametersOf, Greeting, IsCommand, IsGreeting, IsNoCommand, IsNoGreeting}
use Rattle.gitwire.specs.Greetings.{IsNoParametersPart, IsNoTail, IsParameter, IsParametersPartOf, IsTailOf, LiesAt, ShowsOne, asks_for_version_2, command_text}
use Rattle.gitwire.specs.Greetings.{parameters_part, parameters_text, service_word, shown_of, tail_text}
use Rattle.gitwire.specs.declared.greetings.Command.{Command}
use Rattle.gitwire.specs.declared.greetings.Service.{Service}
use Rattle.gitwire.specs.declared.greetings.Service.TheVariants.{UploadPack, ReceivePack, UploadArchive}
use Rattle.gitwire.specs.declared.greetings.Tail.{Tail}

pub nul_inside : (text before : List ℕ) (after : Option (Bor (List ℕ))) → IsCutAt 0 text before (option_copied after) → is_some after ≡ true
    → Lacks text 0 → ⊥
nul_inside text before None cut found lacks = cc
nul_inside text before (Some after) cut found lacks = parted_has_byte 0 text before after.now cut lacks

-- a text without a NUL, and one that is cut at its first
pub not_cut : (text before : List ℕ) (after : Option (Bor (List ℕ))) → IsCutAt 0 text before (option_copied after) → after ≡ None → Lacks text 0
not_cut text before None cut e = cut.1
not_cut text before (Some after) cut e = cc

pub cut_there : (text before : List ℕ) (after : Option (Bor (List ℕ))) (rest : Bor (List ℕ)) → IsCutAt 0 text before (option_copied after)
    → after ≡ Some rest → IsPartedAt 0 text before rest.now
cut_there text before None rest cut e = cc
cut_there text before (Some after) rest cut e =
    let same : after ≡ rest = cc in
    subst (λ (r : Bor (List ℕ)). IsPartedAt 0 text before r.now) same cut

pub no_bytes : (text : List ℕ) → (length text == 0) ≡ true → text ≡ []
no_bytes text e = nil_from_length text (let n = length text in grind (arith, nat_tests))

pub some_bytes : (text : List ℕ) → (length text == 0) ≡ false → text ≢ []
some_bytes text e none = let long : length text ≡ 0 = ap length none in grind (arith, nat_tests)

pub lacks_cons : (c : ℕ) (text : List ℕ) → c ≢ 0 → Lacks text 0 → Lacks (c ∷ text) 0
lacks_cons c text h k zero below = h
lacks_cons c text h k (suc i) below = k i (omega arith)

lacks_append : (a b : List ℕ) → Lacks a 0 → Lacks b 0 → Lacks (a ++ b) 0
lacks_append [] b h k = k
lacks_append (c ∷ a) b h k = lacks_cons c (a ++ b) (h 0 (omega arith)) (lacks_append a b (λ i below. h (suc i) (omega arith)) k)

lacks_end : (a b : List ℕ) → Lacks (a ++ b) 0 → Lacks b 0
lacks_end [] b h = h
lacks_end (c ∷ a) b h = lacks_end a b (λ i below. h (suc i) (omega arith))

lacks_word : (service : Service) → Lacks (service_word service ++ 32 ∷ []) 0
lacks_word UploadPack = no_such_byte 0 (codes "git-upload-pack ") refl
lacks_word ReceivePack = no_such_byte 0 (codes "git-receive-pack ") refl
lacks_word UploadArchive = no_such_byte 0 (codes "git-upload-archive ") refl

spaced : (service : Service) (path : List ℕ) → command_text service path ≡ (service_word service ++ 32 ∷ []) ++ path
spaced UploadPack path = refl
spaced ReceivePack path = refl
spaced UploadArchive path = refl

lacks_command : (service : Service) (path : List ℕ) → Lacks path 0 → Lacks (command_text service path) 0
lacks_command service path h =
    subst (λ (text : List ℕ). Lacks text 0) (sym (spaced service path)) (lacks_append (service_word service ++ 32 ∷ []) path (lacks_word service) h)

lacks_path : (service : Service) (path : List ℕ) → Lacks (command_text service path) 0 → Lacks path 0
lacks_path service path h =
    lacks_end (service_word service ++ 32 ∷ []) path (subst (λ (text : List ℕ). Lacks text 0) (spaced service path) h)

pub no_command : (text : List ℕ) → BeginsOtherThan (codes "git-upload-pack ") text → BeginsOtherThan (codes "git-receive-pack ") text
    → BeginsOtherThan (codes "git-upload-archive ") text → IsNoCommand text
no_command text u r a UploadPack path e = u path e
no_command text u r a ReceivePack path e = r path e
no_command text u r a UploadArchive path e = a path e

-- these parameters have been read, and this is left
pub record ReadSoFar (text rest : List ℕ) (wants : Bool) : Type 0 where
  pub seen : List (List ℕ)
  pub are_parameters : AreParameters seen
  pub spelled : text ≡ parameters_text seen ++ rest
  pub wants_is : wants ≡ asks_for_version_2 seen

are_more : (seen : List (List ℕ)) (parameter : List ℕ) → AreParameters seen → IsParameter parameter → AreParameters (seen ++ parameter ∷ [])
are_more [] parameter h k = (k, tt)
are_more (first ∷ seen) parameter h k = (h.0, are_more seen parameter h.1 k)

text_more : (seen : List (List ℕ)) (parameter rest : List ℕ)
    → parameters_text seen ++ (parameter ++ 0 ∷ rest) ≡ parameters_text (seen ++ parameter ∷ []) ++ rest
text_more [] parameter rest = sym (append_assoc parameter (0 ∷ []) rest)
text_more (first ∷ seen) parameter rest =
    append_assoc first (0 ∷ parameters_text seen) (parameter ++ 0 ∷ rest)
    ∙ ap (λ (l : List ℕ). first ++ 0 ∷ l) (text_more seen parameter rest)
    ∙ sym (append_assoc first (0 ∷ parameters_text (seen ++ parameter ∷ [])) rest)

or_false : (b : Bool) → (b || false) ≡ b
or_false true = refl
or_false false = refl

pub read_more : (text rest parameter next : List ℕ) (wants : Bool) → ReadSoFar text rest wants → IsPartedAt 0 rest parameter next → parameter ≢ []
    → ReadSoFar text next (wants || bytes_eq parameter (codes "version=2"))
read_more text rest parameter next wants so_far parted has_bytes =
    let asks : List ℕ → Bool = λ other. bytes_eq other (codes "version=2") in
    record {
      seen = so_far.seen ++ parameter ∷ [];
      are_parameters = are_more so_far.seen parameter so_far.are_parameters (has_bytes, parted.first);
      spelled =
          so_far.spelled ∙ ap (λ (l : List ℕ). parameters_text so_far.seen ++ l) parted.spelled ∙ text_more so_far.seen parameter next;
      wants_is =
          ap (λ (b : Bool). b || bytes_eq parameter (codes "version=2")) so_far.wants_is
          ∙ ap (λ (b : Bool). list_any asks so_far.seen || b) (sym (or_false (asks parameter)))
          ∙ sym (list_any-append asks so_far.seen (parameter ∷ []));
    }

-- some parameters are the rest of a text
record AreLeft (rest : List ℕ) : Type 0 where
  more : List (List ℕ)
  are_parameters : AreParameters more
  spelled : rest ≡ parameters_text more

left_after : (seen all : List (List ℕ)) (rest : List ℕ) → AreParameters seen → AreParameters all → parameters_text seen ++ rest ≡ parameters_text all
    → AreLeft rest
left_after [] all rest h k e = record { more = all; are_parameters = k; spelled = e }
left_after (first ∷ seen) [] rest h k e =
    absurd (omega (arith, ap length e, length-append (first ++ 0 ∷ parameters_text seen) rest, length-append first (0 ∷ parameters_text seen)))
left_after (first ∷ seen) (other ∷ all) rest h k e =
    let text : List ℕ = other ++ 0 ∷ parameters_text all in
    let here : IsPartedAt 0 text first (parameters_text seen ++ rest) =
    record { spelled = sym e ∙ append_assoc first (0 ∷ parameters_text seen) rest; first = h.0.1 } in
    let there : IsPartedAt 0 text other (parameters_text all) = record { spelled = refl; first = k.0.1 } in
    left_after seen all rest h.1 k.1 (one_parting 0 text first other (parameters_text seen ++ rest) (parameters_text all) here there).1

-- what is left begins with a parameter
record BeginsWithOne (rest : List ℕ) : Type 0 where
  parameter : List ℕ
  next : List ℕ
  is_parameter : IsParameter parameter
  parted : IsPartedAt 0 rest parameter next

begins : (rest : List ℕ) (more : List (List ℕ)) → rest ≢ [] → AreParameters more → rest ≡ parameters_text more → BeginsWithOne rest
begins rest [] has_bytes h e = absurd (has_bytes e)
begins rest (first ∷ more) has_bytes h e = record {
  parameter = first;
  next = parameters_text more;
  is_parameter = h.0;
  parted = record { spelled = e; first = h.0.1 };
}

begins_with_one : (rest : List ℕ) → rest ≢ [] → AreLeft rest → BeginsWithOne rest
begins_with_one rest has_bytes left = begins rest left.more has_bytes left.are_parameters left.spelled

pub no_nul_left : (text rest : List ℕ) (wants : Bool) → ReadSoFar text rest wants → rest ≢ [] → Lacks rest 0 → AreNoParameters text
no_nul_left text rest wants so_far has_bytes lacks parameters are e =
    let left = left_after so_far.seen parameters rest so_far.are_parameters are (sym so_far.spelled ∙ e) in
    let one = begins_with_one rest has_bytes left in
    parted_has_byte 0 rest one.parameter one.next one.parted lacks

pub empty_parameter : (text rest parameter next : List ℕ) (wants : Bool) → ReadSoFar text rest wants → IsPartedAt 0 rest parameter next
    → parameter ≡ [] → AreNoParameters text
empty_parameter text rest parameter next wants so_far parted_there empty parameters are e =
    let parted = subst (λ (l : List ℕ). IsPartedAt 0 rest l next) empty parted_there in
    let left = left_after so_far.seen parameters rest so_far.are_parameters are (sym so_far.spelled ∙ e) in
    let has_bytes : rest ≢ [] = λ none. let clash : [] ≡ 0 ∷ next = sym none ∙ parted.spelled in cc in
    let one = begins_with_one rest has_bytes left in
    one.is_parameter.0 (sym (one_parting 0 rest [] one.parameter next one.next parted one.parted).0)

pub all_read : (text : List ℕ) (wants : Bool) → ReadSoFar text [] wants → AreParametersOf text wants
all_read text wants so_far =
    (so_far.seen, so_far.are_parameters, so_far.spelled ∙ append-nil (parameters_text so_far.seen), so_far.wants_is)

pub no_host_part : (parameters : List (List ℕ)) (value : List ℕ) → codes "host=" ++ value ≡ parameters_part parameters → ⊥
no_host_part [] value e = cc
no_host_part (first ∷ parameters) value e = let clash : 104 ≡ 0 = ap (λ (l : List ℕ). get_or l 0 0) e in omega (arith, clash)

-- a host in a tail that begins with one
pub parted_host : (value host : List ℕ) (parameters : List (List ℕ)) → codes "host=" ++ value ≡ tail_text (Some host) parameters → Lacks host 0
    → IsPartedAt 0 value host (parameters_part parameters)
parted_host value host parameters e lacks = record {
  spelled = ap (λ (l : List ℕ). drop 5 l) e ∙ append_assoc host (0 ∷ []) (parameters_part parameters);
  first = lacks;
}

pub no_tail_after_host : (text value host rest : List ℕ) → text ≡ codes "host=" ++ value → IsPartedAt 0 value host rest → IsNoParametersPart rest
    → IsNoTail text
no_tail_after_host text value host rest is parted none None parameters tail = no_host_part parameters value (sym is ∙ tail.spelled)
no_tail_after_host text value host rest is parted none (Some other) parameters tail =
    none parameters tail.are_parameters
    (one_parting 0 value host other rest (parameters_part parameters) parted
    (parted_host value other parameters (sym is ∙ tail.spelled) tail.is_host)).1

pub tail_after_host : (text value host rest : List ℕ) (wants : Bool) → text ≡ codes "host=" ++ value → IsPartedAt 0 value host rest
    → IsParametersPartOf rest wants → IsTailOf text (record { host_length = Some (length host); wants_version_2 = wants })
tail_after_host text value host rest wants is parted (parameters, are, e, same) =
    let spelled : value ≡ (host ++ 0 ∷ []) ++ parameters_part parameters =
    parted.spelled ∙ ap (λ (l : List ℕ). host ++ 0 ∷ l) e ∙ sym (append_assoc host (0 ∷ []) (parameters_part parameters)) in (
      Some host,
      parameters,
      record { spelled = is ∙ ap (λ (l : List ℕ). codes "host=" ++ l) spelled; is_host = parted.first; are_parameters = are },
      refl,
      same,
    )

pub greeting_parted : (g : Greeting) (bytes : List ℕ) → IsGreeting g bytes
    → IsPartedAt 0 bytes (command_text g.service g.path) (tail_text g.host g.parameters)
greeting_parted g bytes h = record { spelled = h.spelled; first = lacks_command g.service g.path h.is_path }

pub no_greeting_without_nul : (bytes : List ℕ) → Lacks bytes 0 → IsNoGreeting bytes
no_greeting_without_nul bytes lacks g h =
    parted_has_byte 0 bytes (command_text g.service g.path) (tail_text g.host g.parameters) (greeting_parted g bytes h) lacks

pub no_greeting_without_command : (bytes command rest : List ℕ) → IsPartedAt 0 bytes command rest → IsNoCommand command → IsNoGreeting bytes
no_greeting_without_command bytes command rest parted none g h =
    none g.service g.path
    (one_parting 0 bytes command (command_text g.service g.path) rest (tail_text g.host g.parameters) parted (greeting_parted g bytes h)).0

pub no_greeting_without_tail : (bytes command rest : List ℕ) → IsPartedAt 0 bytes command rest → IsNoTail rest → IsNoGreeting bytes
no_greeting_without_tail bytes command rest parted none g h =
    none g.host g.parameters
    (record {
      spelled =
          (one_parting 0 bytes command (command_text g.service g.path) rest (tail_text g.host g.parameters) parted (greeting_parted g bytes h)).1;
      is_host = h.is_host;
      are_parameters = h.are_parameters;
    })

path_lies : (bytes command rest path : List ℕ) (service : Service) → bytes ≡ command ++ 0 ∷ rest → command ≡ command_text service path
    → LiesAt bytes path (length (service_word service) + 1) (length path)
path_lies bytes command rest path service whole is = record {
  before = service_word service ++ 32 ∷ [];
  after = 0 ∷ rest;
  whole =
      whole ∙ ap (λ (l : List ℕ). l ++ 0 ∷ rest) (is ∙ spaced service path) ∙ append_assoc (service_word service ++ 32 ∷ []) path (0 ∷ rest);
  at_is = sym (length-append (service_word service) (32 ∷ []));
  long_is = refl;
}

host_lies : (bytes command rest path host more : List ℕ) (service : Service) → bytes ≡ command ++ 0 ∷ rest → command ≡ command_text service path
    → rest ≡ (codes "host=" ++ (host ++ 0 ∷ [])) ++ more
    → LiesAt bytes host (length (service_word service) + 1 + length path + 6) (length host)
host_lies bytes command rest path host more service whole is tail = record {
  before = command ++ 0 ∷ codes "host=";
  after = 0 ∷ more;
  whole =
      whole ∙ ap (λ (l : List ℕ). command ++ 0 ∷ l) (tail ∙ ap (λ (l : List ℕ). codes "host=" ++ l) (append_assoc host (0 ∷ []) more))
      ∙ sym (append_assoc command (0 ∷ codes "host=") (host ++ 0 ∷ more));
  at_is =
      omega (
        arith,
        length-append command (0 ∷ codes "host="),
        ap length (is ∙ spaced service path),
        length-append (service_word service ++ 32 ∷ []) path,
        length-append (service_word service) (32 ∷ []),
      );
  long_is = refl;
}

pub one_greeting : (bytes text rest : List ℕ) (command : Command) (tail : Tail) → IsPartedAt 0 bytes text rest → IsCommand text command
    → IsTailOf rest tail → ShowsOne bytes (shown_of command tail)
one_greeting bytes text rest command tail parted (path, is, long) (None, parameters, is_tail, host_is, wants) =
    let lies = path_lies bytes text rest path command.service parted.spelled is in
    record {
      g = record { service = command.service; path = path; host = None; parameters = parameters };
      is_greeting = record {
        spelled = parted.spelled ∙ ap (λ (l : List ℕ). l ++ 0 ∷ rest) is ∙ ap (λ (l : List ℕ). command_text command.service path ++ 0 ∷ l) is_tail.spelled;
        is_path = lacks_path command.service path (subst (λ (l : List ℕ). Lacks l 0) is parted.first);
        is_host = tt;
        are_parameters = is_tail.are_parameters;
      };
      shows = record {
        kind = refl;
        fault = refl;
        service = refl;
        path = rw long lies;
        host = rw host_is (refl, refl, refl);
        version = wants;
      };
    }
one_greeting bytes text rest command tail parted (path, is, long) (Some host, parameters, is_tail, host_is, wants) =
    let lies = path_lies bytes text rest path command.service parted.spelled is in
    record {
      g = record { service = command.service; path = path; host = Some host; parameters = parameters };
      is_greeting = record {
        spelled = parted.spelled ∙ ap (λ (l : List ℕ). l ++ 0 ∷ rest) is ∙ ap (λ (l : List ℕ). command_text command.service path ++ 0 ∷ l) is_tail.spelled;
        is_path = lacks_path command.service path (subst (λ (l : List ℕ). Lacks l 0) is parted.first);
        is_host = is_tail.is_host;
        are_parameters = is_tail.are_parameters;
      };
      shows = record {
        kind = refl;
        fault = refl;
        service = refl;
        path = rw long lies;
        host = rw (host_is, long) (refl, host_lies bytes text rest path host (parameters_part parameters) command.service parted.spelled is is_tail.spelled);
        version = wants;
      };
    }

-- the parts of a greeting that is written, one after another
pub parts_in_order : (digits path host : List ℕ)
    → ((((digits ++ codes "git-upload-pack ") ++ path) ++ 0 ∷ []) ++ host) ++ 0 ∷ (codes "version=2" ++ 0 ∷ [])
    ≡ digits ++ (command_text UploadPack path ++ 0 ∷ (host ++ 0 ∷ (codes "version=2" ++ 0 ∷ [])))
parts_in_order digits path host =
    let word : List ℕ = codes "git-upload-pack " in
    let parameter : List ℕ = 0 ∷ (codes "version=2" ++ 0 ∷ []) in
    append_assoc (((digits ++ word) ++ path) ++ 0 ∷ []) host parameter ∙ append_assoc ((digits ++ word) ++ path) (0 ∷ []) (host ++ parameter)
    ∙ append_assoc (digits ++ word) path (0 ∷ (host ++ parameter)) ∙ append_assoc digits word (path ++ 0 ∷ (host ++ parameter))
