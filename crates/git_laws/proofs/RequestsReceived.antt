-- A server reads exactly the requests that a client wrote.
use Rattle.std.proofs.Common.{arith, ◌≡◌, ℕ, ◌+◌, ◌≤◌, Bool, true, false, All, flat_map, List, [], ◌∷◌, ◌++◌, Option, Some, None, codes, refl}
use Rattle.std.proofs.Common.{ap, sym, ◌∙◌, append_assoc, get_or, if◌then◌else◌, inl, inr, subst}
use Rattle.std.proofs.lemmas.List.{map-append}
use Rattle.std.proofs.lemmas.List.Elements.{All-append, All-cons, All-head, All-nil, All-tail}
use Rattle.git_names.specs.declared.object_format.Format.{Format}
use Rattle.git_pkt.specs.Packets.{Pkt, delim, flush, flushes, payload}
use Rattle.git_pkt.specs.Splits.{Given}
use Rattle.git_msg.specs.declared.agent.Agent.{Agent}
use Rattle.git_msg.specs.declared.arguments.Command.{Command}
use Rattle.git_msg.specs.declared.offers.Offer.{Offer}
use Rattle.git_msg.specs.Advertisement.{takes_command}
use Rattle.git_msg.specs.declared.words.TextWord.{TextWord}
use Rattle.git_msg.specs.Arguments.{Arg, IsValue, is_offered, name_of, with_text}
use Rattle.git_msg.specs.Asked.{Asked, HasValues, arguments_in, command_asked, written_bytes}
use Rattle.git_msg.specs.Lines.{FitsLimit, IsFormatMeant, IsLineIn, Line, argument, commands_of, delimiter, has_delimiter, kept_in, server_option}
use Rattle.git_msg.specs.Requests.{AreLines, Asks}
use Rattle.git_msg.specs.WholeRequests.{AreRequests}
use Rattle.git_msg.specs.WrittenRequest.{agent_line, argument_line, argument_part, format_line, is_option, lines_written, options_and_rest}
use Rattle.git_msg.specs.WrittenRequest.{text_line, where_named, where_set}
use Rattle.git_msg.proofs.LineLaws.{fronts_same, one_list_of_lines}
use Rattle.git_msg.proofs.OptionsFirst.{HaveNoOption, HaveOptionsFirst, options_first}
use Rattle.git_msg.proofs.RoundTrip.{lines_read_back}
use Rattle.git_msg.proofs.WholeRequests.{NoFlush, lines_have_no_flush, whole_then}
use Rattle.git_client.specs.Machine.Client.{farewell}
use Rattle.git_server.proofs.Flushes.{flushes-append}
use Rattle.git_server.specs.Sessions.{IsRequest, Setting}
use Rattle.git_laws.specs.AnnouncedAnswers.{packets_of}
use Rattle.git_laws.proofs.ValuesRead.{argument_packets, arguments_fit_in, options_fit_in}

-- ---- one request

-- a line within a limit is within any greater limit
fits_within : (limit most kept : ℕ) (line : Line) → limit ≤ most → FitsLimit limit kept line → FitsLimit most kept line
fits_within limit most kept (server_option option) more h = omega (arith, more, h)
fits_within limit most kept line more h = tt

line_within_in : (part : Bool) (offer : Offer) (limit most : ℕ) (before : List Line) (packet : Pkt) (line : Line) → limit ≤ most
    → IsLineIn part offer limit before packet line → IsLineIn part offer most before packet line
line_within_in false offer limit most before (payload bytes) line more h = (h.0, fits_within limit most (kept_in before) line more h.1)
line_within_in false offer limit most before delim delimiter more h = h
line_within_in true offer limit most before (payload bytes) (argument arg long) more h =
    let fits = h.fits in
    record { is_text = h.is_text; long_is = h.long_is; fits = omega (arith, fits, more) }
line_within_in part offer limit most before packet line more h = absurd h

lines_within : (offer : Offer) (limit most : ℕ) (before : List Line) (gs : List Given) (lines : List Line) → limit ≤ most
    → AreLines offer limit before gs lines → AreLines offer most before gs lines
lines_within offer limit most before [] [] more h = tt
lines_within offer limit most before [] (l ∷ ls) more h = absurd h
lines_within offer limit most before (g ∷ gs) [] more h = absurd h
lines_within offer limit most before (g ∷ gs) (l ∷ ls) more h = (
  line_within_in (has_delimiter before) offer limit most before g.packet l more h.0,
  lines_within offer limit most (before ++ l ∷ []) gs ls more h.1,
)

module _ (offer : Offer) (writes_agent : Option Agent) (writes_format : Bool) (meant : IsFormatMeant offer.format writes_format)
    (takes : (c : Command) → takes_command offer c ≡ true) (offers : (arg : Arg) → is_offered offer arg ≡ true) where
  -- the request read from the packets of a request is that request
  one_written : (limit kept : ℕ) (q other : Asked) (gs : List Given) → HasValues offer.format q
      → packets_of gs ≡ lines_written writes_agent writes_format offer.format q → Asks offer limit gs other kept → other ≡ q
  one_written limit kept q other gs values e a =
      let most = limit + written_bytes q in
      let r = lines_read_back offer most writes_agent writes_format q gs meant (takes (command_asked q)) values
      (λ k d within. offers (get_or (arguments_in q) k d)) (omega arith) e in
      let fronts = fronts_same a.front r.front a.last r.last (sym a.whole ∙ r.whole) in
      let lines : a.lines ≡ r.lines =
      one_list_of_lines offer most [] r.front a.lines r.lines
      (rw fronts at (lines_within offer limit most [] a.front a.lines (omega arith) a.taken)) r.taken in
      let once : a.command ∷ [] ≡ r.of ∷ [] = sym a.once ∙ ap commands_of lines ∙ r.once in
      let c : a.command ≡ r.of = cc in
      rw (a.asked_is, c, lines) (sym r.asked_is)

-- what holds of all of two lists holds of each
split_all : {X : Type 0} (P : X → Type 0) (xs ys : List X) → All P (xs ++ ys) → All P xs × All P ys
split_all P [] ys all = (All-nil P, all)
split_all P (x ∷ xs) ys all =
    let rest = split_all P xs ys (All-tail P x (xs ++ ys) all) in (All-cons P x xs (All-head P x (xs ++ ys) all) rest.0, rest.1)

-- ---- where a request ends

-- the server options, which are the first arguments, and the others
abbrev first_options : List Arg → List Arg
first_options [] = []
first_options (arg ∷ args) = if is_option arg then arg ∷ first_options args else []

abbrev behind_options : List Arg → List Arg
behind_options [] = []
behind_options (arg ∷ args) = if is_option arg then behind_options args else arg ∷ args

options_at : (arg : Arg) (args : List Arg) (is : Bool) → first_options args ++ behind_options args ≡ args
    → (if is then arg ∷ first_options args else []) ++ (if is then behind_options args else arg ∷ args) ≡ arg ∷ args
options_at arg args true e = ap (λ (l : List Arg). arg ∷ l) e
options_at arg args false e = refl

both_parts : (args : List Arg) → first_options args ++ behind_options args ≡ args
both_parts [] = refl
both_parts (arg ∷ args) = options_at arg args (is_option arg) (both_parts args)

first_at : (arg : Arg) (args : List Arg) (is : Bool) → is_option arg ≡ is → All (λ a. is_option a ≡ true) (first_options args)
    → All (λ a. is_option a ≡ true) (if is then arg ∷ first_options args else [])
first_at arg args true is all = All-cons (λ a. is_option a ≡ true) arg (first_options args) is all
first_at arg args false is all = All-nil (λ a. is_option a ≡ true)

first_are : (args : List Arg) → All (λ a. is_option a ≡ true) (first_options args)
first_are [] = All-nil (λ a. is_option a ≡ true)
first_are (arg ∷ args) = first_at arg args (is_option arg) refl (first_are args)

none_at : (arg : Arg) (args : List Arg) (is : Bool) → is_option arg ≡ is → HaveOptionsFirst (arg ∷ args)
    → (HaveOptionsFirst args → HaveNoOption (behind_options args)) → HaveNoOption (if is then behind_options args else arg ∷ args)
none_at arg args true is (inl h) later = later h.1
none_at arg args true is (inr none) later = let no = All-head (λ a. is_option a ≡ false) arg args none in absurd (cc)
none_at arg args false is (inl h) later = let yes = h.0 in absurd (cc)
none_at arg args false is (inr none) later = none

none_behind : (args : List Arg) → HaveOptionsFirst args → HaveNoOption (behind_options args)
none_behind [] h = All-nil (λ a. is_option a ≡ false)
none_behind (arg ∷ args) h = none_at arg args (is_option arg) refl h (none_behind args)

-- the packets of a request before its delimiter
abbrev options_part : Bool → Format → List Arg → List Pkt
options_part writes_format format args = argument_packets (first_options args) ++ where_set writes_format (format_line format) []

abbrev capability_packets : Option Agent → Bool → Format → Asked → List Pkt
capability_packets writes_agent writes_format format q =
    text_line (codes "command=" ++ name_of (command_asked q)) ∷ where_named writes_agent (options_part writes_format format (arguments_in q))

-- all but its flush
abbrev behind_part : List Arg → List Pkt
behind_part args = delim ∷ argument_packets (behind_options args)

abbrev pub lines_of : Option Agent → Bool → Format → Asked → List Pkt
lines_of writes_agent writes_format format q = capability_packets writes_agent writes_format format q ++ behind_part (arguments_in q)

rest_at : (writes_format : Bool) (format : Format) (arg : Arg) (args : List Arg) (is : Bool)
    → options_and_rest writes_format format args ≡ options_part writes_format format args ++ (behind_part args ++ flush ∷ [])
    → (if is then argument_line arg ∷ options_and_rest writes_format format args
    else where_set writes_format (format_line format) (argument_part (arg ∷ args)))
    ≡ (argument_packets (if is then arg ∷ first_options args else []) ++ where_set writes_format (format_line format) [])
    ++ (delim ∷ (argument_packets (if is then behind_options args else arg ∷ args) ++ flush ∷ []))
rest_at writes_format format arg args true e = ap (λ (l : List Pkt). argument_line arg ∷ l) e
rest_at true format arg args false e = refl
rest_at false format arg args false e = refl

rest_ends : (writes_format : Bool) (format : Format) (args : List Arg)
    → options_and_rest writes_format format args ≡ options_part writes_format format args ++ (behind_part args ++ flush ∷ [])
rest_ends true format [] = refl
rest_ends false format [] = refl
rest_ends writes_format format (arg ∷ args) = rest_at writes_format format arg args (is_option arg) (rest_ends writes_format format args)

parts_end : (writes_format : Bool) (format : Format) (args : List Arg)
    → options_and_rest writes_format format args ≡ (options_part writes_format format args ++ behind_part args) ++ flush ∷ []
parts_end writes_format format args =
    rest_ends writes_format format args ∙ sym (append_assoc (options_part writes_format format args) (behind_part args) (flush ∷ []))

pub lines_end : (writes_agent : Option Agent) (writes_format : Bool) (format : Format) (q : Asked)
    → lines_written writes_agent writes_format format q ≡ lines_of writes_agent writes_format format q ++ flush ∷ []
lines_end (Some agent) writes_format format q =
    ap (λ (l : List Pkt). text_line (codes "command=" ++ name_of (command_asked q)) ∷ agent_line agent ∷ l)
    (parts_end writes_format format (arguments_in q))
lines_end None writes_format format q =
    ap (λ (l : List Pkt). text_line (codes "command=" ++ name_of (command_asked q)) ∷ l) (parts_end writes_format format (arguments_in q))

line_clear : (arg : Arg) (ps : List Pkt) → flushes ps ≡ 0 → flushes (argument_line arg ∷ ps) ≡ 0
line_clear (with_text TextWord.ServerOption text) ps clear = clear
line_clear (with_text TextWord.Filter text) ps clear = clear
line_clear arg ps clear = clear

arguments_clear : (args : List Arg) → flushes (argument_packets args) ≡ 0
arguments_clear [] = refl
arguments_clear (arg ∷ args) = line_clear arg (argument_packets args) (arguments_clear args)

format_clear : (writes_format : Bool) (format : Format) → flushes (where_set writes_format (format_line format) []) ≡ 0
format_clear true format = refl
format_clear false format = refl

parts_clear : (writes_format : Bool) (format : Format) (args : List Arg) → flushes (options_part writes_format format args ++ behind_part args) ≡ 0
parts_clear writes_format format args =
    let named = where_set writes_format (format_line format) [] in
    omega (
      arith,
      flushes-append (options_part writes_format format args) (behind_part args),
      flushes-append (argument_packets (first_options args)) named,
      arguments_clear (first_options args),
      format_clear writes_format format,
      arguments_clear (behind_options args),
    )

pub lines_clear : (writes_agent : Option Agent) (writes_format : Bool) (format : Format) (q : Asked)
    → flushes (lines_of writes_agent writes_format format q) ≡ 0
lines_clear (Some agent) writes_format format q = parts_clear writes_format format (arguments_in q)
lines_clear None writes_format format q = parts_clear writes_format format (arguments_in q)

-- the packets before the first flush, and those after it
first_flush : (xs more : List Given) (last : Given) (front back : List Pkt) → NoFlush xs → last.packet ≡ flush → flushes front ≡ 0
    → packets_of (xs ++ last ∷ more) ≡ front ++ flush ∷ back → (packets_of xs ≡ front) × (packets_of more ≡ back)
first_flush [] more last [] back none ends clear e = (refl, cc)
first_flush [] more last (p ∷ front) back none ends clear e =
    let same : p ≡ flush = cc in
    absurd (omega (arith, clear, ap (λ (q : Pkt). flushes (q ∷ front)) same))
first_flush (x ∷ xs) more last [] back none ends clear e =
    let same : x.packet ≡ flush = cc in absurd (none.0 same)
first_flush (x ∷ xs) more last (p ∷ front) back none ends clear e =
    let same : x.packet ≡ p = cc in
    let rest : packets_of (xs ++ last ∷ more) ≡ front ++ flush ∷ back = cc in
    let later = first_flush xs more last front back none.1 ends (omega (arith, clear, flushes-append (p ∷ []) front)) rest in
    (rw (same, later.0), later.1)

-- packets without a flush are not packets with a flush among them
no_flush_among : (gs : List Given) (front back : List Pkt) → NoFlush gs → packets_of gs ≡ front ++ flush ∷ back → ⊥
no_flush_among [] [] back none e = cc
no_flush_among [] (p ∷ front) back none e = cc
no_flush_among (g ∷ gs) [] back none e = let same : g.packet ≡ flush = cc in none.0 same
no_flush_among (g ∷ gs) (p ∷ front) back none e =
    let rest : packets_of gs ≡ front ++ flush ∷ back = cc in
    no_flush_among gs front back none.1 rest

-- ---- packets at any offset

-- packets of a stream, at any offsets
pub wherever : List Pkt → List Given
wherever [] = []
wherever (p ∷ ps) = record { packet = p; offset = 0 } ∷ wherever ps

pub wherever_are : (ps : List Pkt) → packets_of (wherever ps) ≡ ps
unfolding wherever
wherever_are [] = refl
wherever_are (p ∷ ps) = ap (λ (l : List Pkt). p ∷ l) (wherever_are ps)

pub join_packets : (gs hs : List Given) → packets_of (gs ++ hs) ≡ packets_of gs ++ packets_of hs
join_packets gs hs = map-append (λ (g : Given). g.packet) gs hs

-- ---- all requests

-- an empty list of lines is no request
no_lines : (offer : Offer) (limit : ℕ) (front : List Given) (lines : List Line) (command : Command) → front ≡ [] → AreLines offer limit [] front lines
    → commands_of lines ≡ command ∷ [] → ⊥
no_lines offer limit [] [] command none taken once = cc
no_lines offer limit [] (line ∷ lines) command none taken once = taken
no_lines offer limit (g ∷ front) lines command none taken once = cc

-- nor is the flush of a client that leaves
no_request : (leaves : Bool) (front more : List Given) (last : Given) (later : List Pkt) → packets_of (front ++ last ∷ more) ++ later ≡ farewell leaves
    → NoFlush front → (front ≡ [] → ⊥) → ⊥
no_request leaves [] more last later e none some = some refl
no_request false (g ∷ front) more last later e none some = cc
no_request true (g ∷ front) more last later e none some = let same : g.packet ≡ flush = cc in none.0 same

-- a list with a packet in it is not empty
some_packet : (front more : List Given) (last : Given) → packets_of (front ++ last ∷ more) ≡ [] → ⊥
some_packet [] more last e = cc
some_packet (g ∷ front) more last e = cc

-- the values of each request are allowed in a request of some format
abbrev pub HaveValues : List Asked → Type 0
HaveValues asked = All (λ q. (format : Format) × HasValues format q) asked

-- the packets of requests
abbrev pub written_all : Option Agent → Bool → Format → List Asked → List Pkt
written_all writes_agent writes_format format asked = flat_map (lines_written writes_agent writes_format format) asked

module _ (s : Setting) (writes_agent : Option Agent) (writes_format : Bool) (meant : IsFormatMeant s.offer.format writes_format)
    (takes : (c : Command) → takes_command s.offer c ≡ true) (offers : (arg : Arg) → is_offered s.offer arg ≡ true) where
  -- the first request read is the first one written, and the packets after it are those written after it
  first_read : (q r : Asked) (kept : ℕ) (front more gs : List Given) (back : List Pkt) → (format : Format) × HasValues format q → gs ≡ front ++ more
      → packets_of gs ≡ lines_written writes_agent writes_format s.offer.format q ++ back → Asks s.offer s.limit front r kept
      → (r ≡ q) × HasValues s.offer.format q × (packets_of more ≡ back)
  first_read q r kept front more gs back (written, in_written) whole e a =
      let format = s.offer.format in
      let lines = lines_of writes_agent writes_format format q in
      let apart : lines_written writes_agent writes_format format q ++ back ≡ lines ++ flush ∷ back =
      ap (λ (l : List Pkt). l ++ back) (lines_end writes_agent writes_format format q) ∙ append_assoc lines (flush ∷ []) back in
      let parts = first_flush a.front more a.last lines back (lines_have_no_flush s.offer s.limit [] a.front a.lines a.taken) a.ends
      (lines_clear writes_agent writes_format format q) (sym (ap packets_of (whole_then s.offer s.limit front more gs r kept a whole)) ∙ e ∙ apart) in
      let own : packets_of front ≡ lines_written writes_agent writes_format format q =
      rw (a.whole, map-append (λ (g : Given). g.packet) a.front (a.last ∷ []), parts.0, a.ends) (sym (lines_end writes_agent writes_format format q)) in
      let args = arguments_in q in
      let c = command_asked q in
      let both = subst (All (IsValue c written)) (sym (both_parts args)) in_written.allowed in
      let split = split_all (IsValue c written) (first_options args) (behind_options args) both in
      let behind = arguments_fit_in s.offer s.limit c written (behind_options args) (capability_packets writes_agent writes_format format q) []
      a.front a.lines a.taken parts.0 (none_behind args (options_first args in_written.in_order)) split.1 in
      let in_format : HasValues format q = record {
        allowed = subst (All (IsValue c format)) (both_parts args)
            (All-append (IsValue c format) (first_options args) (behind_options args)
            (options_fit_in c written format (first_options args) (first_are args) split.0) behind);
        in_order = in_written.in_order;
      } in
      (one_written s.offer writes_agent writes_format meant takes offers s.limit kept q r front in_format own a, in_format, parts.1)

  -- the requests read are those written, and their object names have the reader's format
  pub requests_are : (asked others : List Asked) (gs left : List Given) → HaveValues asked
      → packets_of gs ≡ written_all writes_agent writes_format s.offer.format asked → NoFlush left → AreRequests (IsRequest s) gs others left
      → (others ≡ asked) × All (HasValues s.offer.format) asked
  requests_are [] [] gs left values e over h = (refl, All-nil (HasValues s.offer.format))
  requests_are [] (r ∷ rs) gs left values e over (front, more, whole, (kept, a, has), later) =
      absurd (some_packet a.front more a.last (sym (ap packets_of (whole_then s.offer s.limit front more gs r kept a whole)) ∙ e))
  requests_are (q ∷ qs) [] gs left values e over h =
      let format = s.offer.format in
      let lines = lines_of writes_agent writes_format format q in
      let back = written_all writes_agent writes_format format qs in
      absurd (no_flush_among left lines back over (sym (ap packets_of h) ∙ e
      ∙ ap (λ (l : List Pkt). l ++ back) (lines_end writes_agent writes_format format q) ∙ append_assoc lines (flush ∷ []) back))
  requests_are (q ∷ qs) (r ∷ rs) gs left values e over (front, more, whole, (kept, a, has), later) =
      let format = s.offer.format in
      let (first, in_format, back) = first_read q r kept front more gs (written_all writes_agent writes_format format qs)
      (All-head (λ (q : Asked). (format : Format) × HasValues format q) q qs values) whole e a in
      let rest = requests_are qs rs more left (All-tail (λ (q : Asked). (format : Format) × HasValues format q) q qs values) back over later in
      (rw (first, rest.0), All-cons (HasValues format) q qs in_format rest.1)

  -- the requests read from the first packets are the first ones written: the flush of a client that leaves is not one
  pub requests_front : (asked others : List Asked) (leaves : Bool) (gs left : List Given) (later : List Pkt) → HaveValues asked
      → packets_of gs ++ later ≡ written_all writes_agent writes_format s.offer.format asked ++ farewell leaves → AreRequests (IsRequest s) gs others left
      → (more : List Asked) × (asked ≡ others ++ more) × All (HasValues s.offer.format) others
  requests_front asked [] leaves gs left later values e h = (asked, refl, All-nil (HasValues s.offer.format))
  requests_front [] (r ∷ rs) leaves gs left later values e (front, more, whole, (kept, a, has), behind) =
      absurd (no_request leaves a.front more a.last later
      (ap (λ (l : List Given). packets_of l ++ later) (sym (whole_then s.offer s.limit front more gs r kept a whole)) ∙ e)
      (lines_have_no_flush s.offer s.limit [] a.front a.lines a.taken)
      (λ none. no_lines s.offer s.limit a.front a.lines a.command none a.taken a.once))
  requests_front (q ∷ qs) (r ∷ rs) leaves gs left later values e (front, more, whole, (kept, a, has), behind) =
      let format = s.offer.format in
      let lines = lines_written writes_agent writes_format format q in
      let others = written_all writes_agent writes_format format qs in
      let tail = wherever later in
      let all : packets_of (gs ++ tail) ≡ lines ++ (others ++ farewell leaves) =
      join_packets gs tail ∙ ap (λ (l : List Pkt). packets_of gs ++ l) (wherever_are later) ∙ e ∙ append_assoc lines others (farewell leaves) in
      let (first, in_format, back) = first_read q r kept front (more ++ tail) (gs ++ tail) (others ++ farewell leaves)
      (All-head (λ (q : Asked). (format : Format) × HasValues format q) q qs values)
      (ap (λ (l : List Given). l ++ tail) whole ∙ append_assoc front more tail) all a in
      let onward : packets_of more ++ later ≡ others ++ farewell leaves =
      ap (λ (l : List Pkt). packets_of more ++ l) (sym (wherever_are later)) ∙ sym (join_packets more tail) ∙ back in
      let (after, split, values_after) = requests_front qs rs leaves more left later
      (All-tail (λ (q : Asked). (format : Format) × HasValues format q) q qs values) onward behind in (
        after,
        ap (λ (l : List Asked). q ∷ l) split ∙ ap (λ (x : Asked). x ∷ (rs ++ after)) (sym first),
        All-cons (HasValues format) r rs (subst (HasValues format) (sym first) in_format) values_after,
      )
