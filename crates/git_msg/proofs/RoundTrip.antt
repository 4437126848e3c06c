-- The written form of a request reads back.
use Rattle.std.proofs.Common.{arith, ◌≡◌, ◌≢◌, ℕ, ◌+◌, ◌≤◌, ◌&&◌, Bool, true, false, Option, Some, None, List, [], ◌∷◌, ◌++◌, refl, ap, sym, rules}
use Rattle.std.proofs.Common.{◌∙◌, subst, length, slice_index, codes, inl, inr, if◌then◌else◌}
use Rattle.std.specs.Prelude.{All, IsTrue, is_some, map}
use Rattle.std.specs.List.{list_all}
use Rattle.std.proofs.lemmas.Bool.{and_parts}
use Rattle.std.proofs.lemmas.List.{append-nil}
use Rattle.std.proofs.lemmas.List.Elements.{All-head, All-nil, All-tail}
use Rattle.std.proofs.lemmas.List.Folds.{list_all-append}
use Rattle.std.proofs.lemmas.List.Sums.{sum_by-cons}
use Rattle.git_names.specs.ObjectFormat.{name_of as format_name}
use Rattle.git_names.specs.declared.object_format.Format.{Format}
use Rattle.git_names.specs.declared.object_format.Format.TheVariants.{Sha1, Sha256}
use Rattle.git_pkt.specs.Packets.{Pkt, flush, delim, text_of}
use Rattle.git_pkt.specs.Splits.{Given}
use Rattle.git_pkt.proofs.Texts.{text_of-line_end, text_loses_a_line_end}
use Rattle.git_msg.specs.declared.agent.Agent.{Agent}
use Rattle.git_msg.specs.declared.offers.Offer.{Offer}
use Rattle.git_msg.specs.declared.arguments.Command.{Command}
use Rattle.git_msg.specs.declared.arguments.Command.TheVariants.{LsRefs, Fetch, ObjectInfo}
use Rattle.git_msg.specs.declared.flags.Flag.{Flag}
use Rattle.git_msg.specs.declared.capability_key.Key.TheVariants.{AgentKey, ServerOptionKey}
use Rattle.git_msg.specs.Texts.{IsErrorText}
use Rattle.git_msg.specs.declared.words.Word.{Word}
use Rattle.git_msg.specs.declared.words.Word.TheVariants.{Flag as of_flag, Object as of_object, Text as of_text, Number as of_number}
use Rattle.git_msg.specs.declared.words.ObjectWord.{ObjectWord}
use Rattle.git_msg.specs.declared.words.TextWord.{TextWord}
use Rattle.git_msg.specs.declared.words.NumberWord.{NumberWord}
use Rattle.git_msg.specs.Arguments.{Arg, alone, with_id, with_text, with_number, row, word_of, HasArgument, StatesValue, IsInRange, is_offered}
use Rattle.git_msg.specs.Arguments.{name_of, written_text, written_value, IsFor, MayHave}
use Rattle.git_msg.specs.Flags.{flag_row}
use Rattle.git_msg.specs.Agents.{agent_text}
use Rattle.git_msg.specs.Capability.{is_value, is_value_byte}
use Rattle.git_msg.specs.Advertisement.{takes_command}
use Rattle.git_msg.specs.Asked.{Asked, command_asked, asked_by, arguments_in, bytes_of, written_bytes, HasValues, AreOffered}
use Rattle.git_msg.specs.Lines.{Line, command, unkept, server_option, object_format, delimiter, argument, is_none, is_delimiter, command_in, argument_in}
use Rattle.git_msg.specs.Lines.{option_in, commands_of, arguments_of, options_of, kept_arguments, kept_in, has_format, has_delimiter, long_of, end_checks}
use Rattle.git_msg.specs.Lines.{flush_checks_in, FitsLimit, IsCapabilityLine}
use Rattle.git_msg.specs.Lines.{IsArgumentLine, IsFormatMeant, IsLine}
use Rattle.git_msg.specs.Machine.JudgedLine.{IsText}
use Rattle.git_msg.specs.Checks.{Passes}
use Rattle.git_msg.specs.Requests.{AreLines, Asks}
use Rattle.git_msg.specs.WrittenRequest.{text_line, where_named, where_set, format_line, is_option, argument_line, argument_lines, lines_written}
use Rattle.git_msg.specs.WrittenRequest.{options_and_rest}
use Rattle.git_msg.proofs.AgentNames.{agent_is_value}
use Rattle.git_msg.proofs.ArgumentsInOrder.{asks_for_it}
use Rattle.git_msg.proofs.DigitValues.{decimal_reads_back}
use Rattle.git_msg.proofs.KeptBytes.{small_number}
use Rattle.git_msg.proofs.HeadWords.{written_is}
use Rattle.git_msg.proofs.WrittenNames.{hex_of-reads_back}
use Rattle.git_msg.proofs.LineLaws.{names_taken}
use Rattle.git_msg.proofs.LineLists.{commands_snoc, delimiter_snoc, format_snoc, kept_snoc, argument_is_line, capability_is_line}
use Rattle.git_msg.proofs.OptionsFirst.{HaveNoOption, HaveOptionsFirst, options_first}

-- the packets end with a flush, and those before it are lines
record Finishes (offer : Offer) (limit : ℕ) (before : List Line) (gs : List Given) (lines : List Line) : Type 0 where
  front : List Given
  last : Given
  whole : gs ≡ front ++ last ∷ []
  ends : last.packet ≡ flush
  taken : AreLines offer limit before front lines

abbrev packets_of : List Given → List Pkt
packets_of gs = map (λ g. g.packet) gs

-- one more packet at the front
cons_line : (offer : Offer) (limit : ℕ) (before : List Line) (gs : List Given) (p : Pkt) (ps : List Pkt) (line : Line) (lines : List Line)
    → packets_of gs ≡ p ∷ ps → IsLine offer limit before p line
    → ((others : List Given) → packets_of others ≡ ps → Finishes offer limit (before ++ line ∷ []) others lines)
    → Finishes offer limit before gs (line ∷ lines)
cons_line offer limit before [] p ps line lines h is rest = absurd (cc)
cons_line offer limit before (g ∷ gs) p ps line lines h is rest =
    let same : g.packet ≡ p = cc in
    let later = rest gs (cc) in
    record {
      front = g ∷ later.front;
      last = later.last;
      whole = ap (λ (xs : List Given). g ∷ xs) later.whole;
      ends = later.ends;
      taken = (rw same is, later.taken);
    }

-- the flush alone
only_flush : (offer : Offer) (limit : ℕ) (before : List Line) (gs : List Given) → packets_of gs ≡ flush ∷ [] → Finishes offer limit before gs []
only_flush offer limit before (g ∷ []) h = record { front = []; last = g; whole = refl; ends = cc; taken = tt }
only_flush offer limit before gs h = absurd (cc)

not_error : (text : List ℕ) → slice_index text 0 ≢ 69 → ¬ IsErrorText text
not_error text h e = h (ap (λ (xs : List ℕ). slice_index xs 0) e.spelled)

-- the written form of an argument is not an error packet
no_error_word : (word : Word) (rest : List ℕ) → ¬ IsErrorText ((row word).keyword ++ rest)
no_error_word (of_flag Flag.Size) rest = not_error (codes "size" ++ rest) (λ e. omega arith)
no_error_word (of_object ObjectWord.Want) rest = not_error (codes "want " ++ rest) (λ e. omega arith)
no_error_word (of_text TextWord.Filter) rest = not_error (codes "filter " ++ rest) (λ e. omega arith)
no_error_word (of_number NumberWord.Deepen) rest = not_error (codes "deepen " ++ rest) (λ e. omega arith)
no_error_word word rest = not_error ((row word).keyword ++ rest) (λ e. omega arith)

written_clean : (arg : Arg) → ¬ IsErrorText (written_text arg)
written_clean arg = no_error_word (word_of arg) (written_value arg)

written_states : (format : Format) (arg : Arg) → IsInRange format arg → StatesValue format (written_value arg) arg
written_states format (alone flag) fits = tt
written_states format (with_id word id) fits = hex_of-reads_back format id fits
written_states format (with_text word text) fits = (refl, fits)
written_states format (with_number word number) fits =
    record { is_number = decimal_reads_back number (small_number word number fits); in_range = fits }

written_conveys : (format : Format) (arg : Arg) → IsInRange format arg → HasArgument format (written_text arg) arg
written_conveys format arg fits = record { value = written_value arg; spelled = written_is arg; states = written_states format arg fits }

-- the argument is allowed in a request of the command
record IsAllowed (c : Command) (offer : Offer) (arg : Arg) : Type 0 where
  may_have : MayHave c arg
  in_range : IsInRange offer.format arg
  offered : is_offered offer arg ≡ true

abbrev AreAllowed : Command → Offer → List Arg → Type 0
AreAllowed c offer args = All (IsAllowed c offer) args

-- an argument that is no server option belongs to one command
flag_command : (flag : Flag) → is_some (flag_row flag).command ≡ true
flag_command Flag.Size = refl
flag_command flag = refl

has_command : (arg : Arg) → is_option arg ≡ false → is_some (row (word_of arg)).command ≡ true
has_command (alone flag) other = flag_command flag
has_command (with_id ObjectWord.Want id) other = refl
has_command (with_text TextWord.Filter text) other = refl
has_command (with_text TextWord.ServerOption text) other = absurd (cc)
has_command (with_number NumberWord.Deepen number) other = refl
has_command arg other = refl

only_command : (c : Command) (own : Option Command) → is_some own ≡ true → IsFor c own → own ≡ Some c
only_command c None some for = absurd (cc)
only_command c (Some own) some for = ap (λ (d : Command). Some d) for

argument_reads : (c : Command) (offer : Offer) (arg : Arg) → is_option arg ≡ false → IsAllowed c offer arg → IsText c offer (written_text arg) arg
argument_reads c offer arg other allowed = record {
  no_error = written_clean arg;
  reads = record {
    is_argument = (only_command c (row (word_of arg)).command (has_command arg other) allowed.may_have, written_conveys offer.format arg allowed.in_range);
    offered = allowed.offered;
  };
}

-- LF ends its line
pub ends_with_line_feed : (arg : Arg) → is_option arg ≡ false → argument_line arg ≡ text_line (written_text arg)
ends_with_line_feed (with_text TextWord.ServerOption text) other = absurd (cc)
ends_with_line_feed (with_text TextWord.Filter text) other = refl
ends_with_line_feed arg other = refl

-- the line of an argument's written form
abbrev written_line : Arg → Line
written_line arg = argument arg (length (written_text arg))

-- the lines so far end in the argument part of a request of this command
record InPart (c : Command) (before : List Line) : Type 0 where
  behind : has_delimiter before ≡ true
  once : commands_of before ≡ c ∷ []

in_part_more : (c : Command) (before : List Line) (arg : Arg) → InPart c before → InPart c (before ++ written_line arg ∷ [])
in_part_more c before arg h = record {
  behind = delimiter_snoc before (written_line arg) ∙ h.behind;
  once = commands_snoc before (written_line arg) ∙ append-nil (commands_of before) ∙ h.once;
}

-- the line of an argument that fits
argument_line_is : (offer : Offer) (limit : ℕ) (c : Command) (before : List Line) (arg : Arg) → InPart c before → is_option arg ≡ false
    → IsAllowed c offer arg → kept_in before + length (written_text arg) ≤ limit → IsLine offer limit before (argument_line arg) (written_line arg)
argument_line_is offer limit c before arg part other allowed fits =
    let text = argument_reads c offer arg other allowed in
    subst (λ (p : Pkt). IsLine offer limit before p (written_line arg)) (sym (ends_with_line_feed arg other))
    (argument_is_line offer limit before (written_text arg ++ 10 ∷ []) arg (length (written_text arg)) part.behind
    (subst (λ (t : List ℕ). IsArgumentLine offer limit before t arg (length (written_text arg))) (sym (text_of-line_end (written_text arg))) (record {
      is_text = record { no_error = text.no_error; of = c; asked = part.once; reads = text.reads };
      long_is = refl;
      fits = fits;
    })))

arguments_finish : (offer : Offer) (limit : ℕ) (c : Command) (before : List Line) (args : List Arg) (gs : List Given) → InPart c before
    → HaveNoOption args → AreAllowed c offer args → kept_in before + bytes_of args ≤ limit → packets_of gs ≡ argument_lines args
    → Finishes offer limit before gs (map written_line args)
arguments_finish offer limit c before [] gs part none allowed fits h = only_flush offer limit before gs h
arguments_finish offer limit c before (arg ∷ args) gs part none allowed fits h =
    let whole = sum_by-cons (λ a. length (written_text a)) arg args in
    let more = kept_snoc before (written_line arg) in
    cons_line offer limit before gs (argument_line arg) (argument_lines args) (written_line arg) (map written_line args) h
    (argument_line_is offer limit c before arg part (All-head (λ a. is_option a ≡ false) arg args none)
    (All-head (IsAllowed c offer) arg args allowed) (omega (arith, whole, fits)))
    (λ gs1 h1. arguments_finish offer limit c (before ++ written_line arg ∷ []) args gs1 (in_part_more c before arg part)
    (All-tail (λ a. is_option a ≡ false) arg args none) (All-tail (IsAllowed c offer) arg args allowed) (omega (arith, whole, more, fits)) h1)

-- the lines so far are the capability part of a request of this command
record InFront (c : Command) (before : List Line) : Type 0 where
  in_front : has_delimiter before ≡ false
  once : commands_of before ≡ c ∷ []

-- one more line there, which names no command
in_front_more : (c : Command) (before : List Line) (line : Line) → is_delimiter line ≡ false → command_in line ≡ None → InFront c before
    → InFront c (before ++ line ∷ [])
in_front_more c before line same none part = record {
  in_front = delimiter_snoc before line ∙ rw same part.in_front;
  once = commands_snoc before line ∙ rw none (append-nil (commands_of before) ∙ part.once);
}

-- the delimiter, and what follows
delimiter_finish : (offer : Offer) (limit : ℕ) (c : Command) (before : List Line) (args : List Arg) (gs : List Given) → InFront c before
    → IsFormatMeant offer.format (has_format before) → HaveNoOption args → AreAllowed c offer args → kept_in before + bytes_of args ≤ limit
    → packets_of gs ≡ delim ∷ argument_lines args → Finishes offer limit before gs (delimiter ∷ map written_line args)
delimiter_finish offer limit c before args gs part meant none allowed fits h =
    cons_line offer limit before gs _ _ _ _ h (rw part.in_front (ap is_none part.once, (meant, tt)))
    (λ gs1 h1. arguments_finish offer limit c (before ++ delimiter ∷ []) args gs1
    (record { behind = delimiter_snoc before delimiter; once = commands_snoc before delimiter ∙ append-nil (commands_of before) ∙ part.once })
    none allowed (omega (arith, kept_snoc before delimiter, fits)) h1)

-- a capability line that was written
capability_written : (offer : Offer) (limit : ℕ) (before : List Line) (text : List ℕ) (line : Line) → has_delimiter before ≡ false
    → IsCapabilityLine offer (is_none (commands_of before)) text line → FitsLimit limit (kept_in before) line
    → IsLine offer limit before (text_line text) line
capability_written offer limit before text line in_front is in_limit =
    capability_is_line offer limit before (text ++ 10 ∷ []) line in_front
    (subst (λ (t : List ℕ). IsCapabilityLine offer (is_none (commands_of before)) t line) (sym (text_of-line_end text)) is) in_limit

command_line : (offer : Offer) (c : Command) → IsTrue (is_value (name_of c)) → takes_command offer c ≡ true
    → IsCapabilityLine offer true (codes "command=" ++ name_of c) (command c)
command_line offer c fits taken = search (rules, not_error, names_taken)

command_written : (offer : Offer) (c : Command) → takes_command offer c ≡ true
    → IsCapabilityLine offer true (codes "command=" ++ name_of c) (command c)
command_written offer LsRefs taken = command_line offer LsRefs refl taken
command_written offer Fetch taken = command_line offer Fetch refl taken
command_written offer ObjectInfo taken = command_line offer ObjectInfo refl taken

agent_written : (offer : Offer) (a : Agent) → IsCapabilityLine offer false (codes "agent=" ++ agent_text a) unkept
agent_written offer a = record {
  no_error = not_error (codes "agent=" ++ agent_text a) (λ e. omega arith);
  key = AgentKey;
  value = Some (agent_text a);
  has_key = record { word = codes "agent"; is_capability = (refl, refl, agent_is_value a); is_word = refl };
  allowed = tt;
  line_is = tt;
}

format_written_of : (offer : Offer) (format : Format) → offer.format ≡ format
    → IsCapabilityLine offer false (codes "object-format=" ++ format_name format) object_format
format_written_of offer Sha1 same = search (rules, not_error)
format_written_of offer Sha256 same = search (rules, not_error)

format_written : (offer : Offer) → IsCapabilityLine offer false (codes "object-format=" ++ format_name offer.format) object_format
format_written offer = format_written_of offer offer.format refl

pub meant_when_stated : (format : Format) → IsFormatMeant format true
meant_when_stated Sha1 = tt
meant_when_stated Sha256 = refl

-- no byte of a value is LF, so nothing is taken off its end
ends_without_line_feed : (bytes : List ℕ) → is_value bytes ≡ true → text_of bytes ≡ bytes
ends_without_line_feed bytes fits = elim (text_loses_a_line_end bytes) [
  | inl same ↦ same
  | inr cut ↦
      let all : (list_all is_value_byte (text_of bytes) && false) ≡ true =
      sym (list_all-append is_value_byte (text_of bytes) (10 ∷ [])) ∙ ap (list_all is_value_byte) (sym cut) ∙ fits in
      let last = (and_parts (list_all is_value_byte (text_of bytes)) false all).1 in
      absurd (cc)
]

option_written : (offer : Offer) (c : Command) (option : List ℕ) → IsAllowed c offer (with_text TextWord.ServerOption option)
    → IsCapabilityLine offer false (codes "server-option=" ++ option) (server_option option)
option_written offer c option allowed = record {
  no_error = not_error (codes "server-option=" ++ option) (λ e. omega arith);
  key = ServerOptionKey;
  value = Some option;
  has_key = record { word = codes "server-option"; is_capability = (refl, refl, allowed.in_range.0); is_word = refl };
  allowed = (allowed.offered, (allowed.in_range.1, tt));
  line_is = refl;
}

-- the line of a server option
abbrev option_line : Arg → Line
option_line arg = server_option (written_value arg)

option_kept : (arg : Arg) → is_option arg ≡ true → with_text TextWord.ServerOption (written_value arg) ≡ arg
option_kept (with_text TextWord.ServerOption text) is = refl
option_kept arg is = absurd (cc)

-- a line before the others, if it is written
where_stated : Bool → Line → List Line → List Line
where_stated true line lines = line ∷ lines
where_stated false line lines = lines

-- the lines of a request from its server options on
lines_from_options : Bool → List Arg → List Line
lines_from_options writes_format [] = where_stated writes_format object_format (delimiter ∷ [])
lines_from_options writes_format (arg ∷ args) =
    if is_option arg then option_line arg ∷ lines_from_options writes_format args
    else where_stated writes_format object_format (delimiter ∷ map written_line (arg ∷ args))

-- the lines of a request for these arguments
lines_read : Option Agent → Bool → Command → List Arg → List Line
lines_read writes_agent writes_format c args = command c ∷ where_stated (is_some writes_agent) unkept (lines_from_options writes_format args)

module _ (offer : Offer) (limit : ℕ) (c : Command) where
  -- a server option that fits
  option_line_is : (before : List Line) (arg : Arg) → InFront c before → is_option arg ≡ true → IsAllowed c offer arg
      → kept_in before + length (written_text arg) ≤ limit → IsLine offer limit before (argument_line arg) (option_line arg)
  option_line_is before (with_text TextWord.ServerOption option) part is allowed fits =
      let text = codes "server-option=" ++ option in
      capability_is_line offer limit before text (server_option option) part.in_front
      (rw (ap is_none part.once) (subst (λ (t : List ℕ). IsCapabilityLine offer false t (server_option option))
      (sym (ends_without_line_feed text allowed.in_range.0)) (option_written offer c option allowed))) fits
  option_line_is before arg part is allowed fits = absurd (cc)

  -- the object format, if it is written, and what follows
  format_finish : (writes_format : Bool) (before : List Line) (args : List Arg) (gs : List Given) → InFront c before → has_format before ≡ false
      → IsFormatMeant offer.format writes_format → HaveNoOption args → AreAllowed c offer args → kept_in before + bytes_of args ≤ limit
      → packets_of gs ≡ where_set writes_format (format_line offer.format) (delim ∷ argument_lines args)
      → Finishes offer limit before gs (where_stated writes_format object_format (delimiter ∷ map written_line args))
  unfolding where_stated
  format_finish true before args gs part unsaid meant none allowed fits h =
      let content : has_format (before ++ object_format ∷ []) ≡ true = format_snoc before object_format in
      cons_line offer limit before gs _ _ _ _ h
      (capability_written offer limit before (codes "object-format=" ++ format_name offer.format) object_format part.in_front
      (rw (ap is_none part.once) (format_written offer)) tt)
      (λ gs1 h1. delimiter_finish offer limit c (before ++ object_format ∷ []) args gs1 (in_front_more c before object_format refl refl part)
      (rw content (meant_when_stated offer.format)) none allowed (omega (arith, kept_snoc before object_format, fits)) h1)
  format_finish false before args gs part unsaid meant none allowed fits h =
      delimiter_finish offer limit c before args gs part (subst (IsFormatMeant offer.format) (sym unsaid) meant) none allowed fits h

  -- the server options, and what follows
  options_finish : (writes_format : Bool) (before : List Line) (args : List Arg) (gs : List Given) → InFront c before → has_format before ≡ false
      → IsFormatMeant offer.format writes_format → HaveOptionsFirst args → AreAllowed c offer args → kept_in before + bytes_of args ≤ limit
      → packets_of gs ≡ options_and_rest writes_format offer.format args → Finishes offer limit before gs (lines_from_options writes_format args)
  unfolding lines_from_options
  options_finish writes_format before [] gs part unsaid meant first allowed fits h =
      format_finish writes_format before [] gs part unsaid meant (All-nil (λ a. is_option a ≡ false)) allowed fits h
  options_finish writes_format before (arg ∷ args) gs part unsaid meant (inl (is, later)) allowed fits h =
      let long = ap (λ (a : Arg). length (written_text a)) (option_kept arg is) in
      let whole = sum_by-cons (λ a. length (written_text a)) arg args in
      let more = kept_snoc before (option_line arg) in
      rw is (cons_line offer limit before gs (argument_line arg) (options_and_rest writes_format offer.format args) (option_line arg)
      (lines_from_options writes_format args) (rw is at h)
      (option_line_is before arg part is (All-head (IsAllowed c offer) arg args allowed) (omega (arith, whole, fits)))
      (λ gs1 h1. options_finish writes_format (before ++ option_line arg ∷ []) args gs1 (in_front_more c before (option_line arg) refl refl part)
      (format_snoc before (option_line arg) ∙ unsaid) meant later (All-tail (IsAllowed c offer) arg args allowed) (omega (arith, whole, more, long, fits)) h1))
  options_finish writes_format before (arg ∷ args) gs part unsaid meant (inr none) allowed fits h =
      let other = All-head (λ a. is_option a ≡ false) arg args none in
      rw other (format_finish writes_format before (arg ∷ args) gs part unsaid meant none allowed fits (rw other at h))

  -- the agent, if it is written, and what follows
  agent_finish : (writes_agent : Option Agent) (writes_format : Bool) (args : List Arg) (gs : List Given) → IsFormatMeant offer.format writes_format
      → HaveOptionsFirst args → AreAllowed c offer args → bytes_of args ≤ limit
      → packets_of gs ≡ where_named writes_agent (options_and_rest writes_format offer.format args)
      → Finishes offer limit (command c ∷ []) gs (where_stated (is_some writes_agent) unkept (lines_from_options writes_format args))
  unfolding where_stated
  agent_finish (Some a) writes_format args gs meant first allowed fits h =
      cons_line offer limit (command c ∷ []) gs _ _ _ _ h
      (capability_written offer limit (command c ∷ []) (codes "agent=" ++ agent_text a) unkept refl (agent_written offer a) tt)
      (λ gs1 h1. options_finish writes_format (command c ∷ unkept ∷ []) args gs1 (record { in_front = refl; once = refl }) refl meant first allowed
      (omega (arith, fits)) h1)
  agent_finish None writes_format args gs meant first allowed fits h =
      options_finish writes_format (command c ∷ []) args gs (record { in_front = refl; once = refl }) refl meant first allowed (omega (arith, fits)) h

  -- all packets of a request for these arguments
  lines_finish : (writes_agent : Option Agent) (writes_format : Bool) (args : List Arg) (gs : List Given) → IsFormatMeant offer.format writes_format
      → takes_command offer c ≡ true → HaveOptionsFirst args → AreAllowed c offer args → bytes_of args ≤ limit
      → packets_of gs ≡ text_line (codes "command=" ++ name_of c) ∷ where_named writes_agent (options_and_rest writes_format offer.format args)
      → Finishes offer limit [] gs (lines_read writes_agent writes_format c args)
  unfolding lines_read
  lines_finish writes_agent writes_format args gs meant taken first allowed fits h =
      cons_line offer limit [] gs _ _ _ _ h
      (capability_written offer limit [] (codes "command=" ++ name_of c) (command c) refl (command_written offer c taken) tt)
      (λ gs1 h1. agent_finish writes_agent writes_format args gs1 meant first allowed fits h1)

-- the contents of lines
record HasContent (commands : List Command) (args : List Arg) (kept : ℕ) (delimited : Bool) (lines : List Line) : Type 0 where
  conveys_commands : commands_of lines ≡ commands
  conveys_arguments : kept_arguments lines ≡ args
  has_bytes : kept_in lines ≡ kept
  is_delimited : has_delimiter lines ≡ delimited

-- lines of arguments have no server options
no_options : (args : List Arg) → options_of (map written_line args) ≡ []
no_options [] = refl
no_options (arg ∷ args) = no_options args

arguments_are : (args : List Arg) → arguments_of (map written_line args) ≡ args
arguments_are [] = refl
arguments_are (arg ∷ args) = ap (λ (xs : List Arg). arg ∷ xs) (arguments_are args)

commands_none : (args : List Arg) → commands_of (map written_line args) ≡ []
commands_none [] = refl
commands_none (arg ∷ args) = commands_none args

bytes_are : (args : List Arg) → kept_in (map written_line args) ≡ bytes_of args
bytes_are [] = refl
bytes_are (arg ∷ args) =
    let others = bytes_are args in
    omega (arith, others, sum_by-cons long_of (written_line arg) (map written_line args), sum_by-cons (λ a. length (written_text a)) arg args)

-- the delimiter and the arguments
part_conveys : (args : List Arg) → HasContent [] args (bytes_of args) true (delimiter ∷ map written_line args)
part_conveys args = record {
  conveys_commands = commands_none args;
  conveys_arguments = ap (λ (options : List Arg). options ++ arguments_of (map written_line args)) (no_options args) ∙ arguments_are args;
  has_bytes = bytes_are args;
  is_delimited = refl;
}

-- a line that is not kept, and is no command, adds nothing to the contents
line_conveys : (line : Line) → command_in line ≡ None → argument_in line ≡ None → option_in line ≡ None → long_of line ≡ 0 → is_delimiter line ≡ false
    → (content : Bool) (cs : List Command) (args : List Arg) (kept : ℕ) (lines : List Line) → HasContent cs args kept true lines
    → HasContent cs args kept true (where_stated content line lines)
unfolding where_stated
line_conveys line no_command no_argument no_option no_bytes no_delimiter true cs args kept lines h =
    let bytes = h.has_bytes in
    record {
      conveys_commands = rw no_command h.conveys_commands;
      conveys_arguments = rw (no_argument, no_option) h.conveys_arguments;
      has_bytes = omega (arith, bytes, no_bytes, sum_by-cons long_of line lines);
      is_delimited = rw no_delimiter h.is_delimited;
    }
line_conveys line no_command no_argument no_option no_bytes no_delimiter false cs args kept lines h = h

options_convey : (writes_format : Bool) (args : List Arg) → HaveOptionsFirst args
    → HasContent [] args (bytes_of args) true (lines_from_options writes_format args)
unfolding lines_from_options
options_convey writes_format [] first =
    line_conveys object_format refl refl refl refl refl writes_format [] [] (bytes_of []) (delimiter ∷ []) (part_conveys [])
options_convey writes_format (arg ∷ args) (inl (is, later)) =
    let h = options_convey writes_format args later in
    let bytes = h.has_bytes in
    let long = ap (λ (a : Arg). length (written_text a)) (option_kept arg is) in
    let lines = lines_from_options writes_format args in
    let whole : HasContent [] (arg ∷ args) (bytes_of (arg ∷ args)) true (option_line arg ∷ lines) = record {
      conveys_commands = h.conveys_commands;
      conveys_arguments =
          ap (λ (a : Arg). a ∷ kept_arguments lines) (option_kept arg is) ∙ ap (λ (others : List Arg). arg ∷ others) h.conveys_arguments;
      has_bytes = omega (arith, bytes, long, sum_by-cons long_of (option_line arg) lines, sum_by-cons (λ a. length (written_text a)) arg args);
      is_delimited = h.is_delimited;
    } in
    rw is whole
options_convey writes_format (arg ∷ args) (inr none) =
    rw (All-head (λ a. is_option a ≡ false) arg args none)
    (line_conveys object_format refl refl refl refl refl writes_format [] (arg ∷ args) (bytes_of (arg ∷ args)) (delimiter ∷ map written_line (arg ∷ args))
    (part_conveys (arg ∷ args)))

lines_convey : (writes_agent : Option Agent) (writes_format : Bool) (c : Command) (args : List Arg) → HaveOptionsFirst args
    → HasContent (c ∷ []) args (bytes_of args) true (lines_read writes_agent writes_format c args)
unfolding lines_read
lines_convey writes_agent writes_format c args first =
    let h : HasContent [] args (bytes_of args) true (where_stated (is_some writes_agent) unkept (lines_from_options writes_format args)) =
    line_conveys unkept refl refl refl refl refl (is_some writes_agent) [] args (bytes_of args) (lines_from_options writes_format args)
    (options_convey writes_format args first) in
    record {
      conveys_commands = ap (λ (cs : List Command). c ∷ cs) h.conveys_commands;
      conveys_arguments = h.conveys_arguments;
      has_bytes = h.has_bytes;
      is_delimited = h.is_delimited;
    }

-- the packets are lines and a flush, and the lines ask for this
pub record ReadsLines (offer : Offer) (limit : ℕ) (asked : Asked) (gs : List Given) : Type 0 where
  pub front : List Given
  pub last : Given
  pub lines : List Line
  pub of : Command
  pub whole : gs ≡ front ++ last ∷ []
  pub ends : last.packet ≡ flush
  pub taken : AreLines offer limit [] front lines
  pub once : commands_of lines ≡ of ∷ []
  pub asked_is : asked ≡ asked_by of (kept_arguments lines)
  pub kept_is : written_bytes asked ≡ kept_in lines
  pub delimited : has_delimiter lines ≡ true

-- the written form of a request has lines that ask for the same, whatever is checked at its end
pub lines_read_back : (offer : Offer) (limit : ℕ) (writes_agent : Option Agent) (writes_format : Bool) (asked : Asked) (gs : List Given)
    → IsFormatMeant offer.format writes_format → takes_command offer (command_asked asked) ≡ true → HasValues offer.format asked → AreOffered offer asked
    → written_bytes asked ≤ limit → packets_of gs ≡ lines_written writes_agent writes_format offer.format asked → ReadsLines offer limit asked gs
lines_read_back offer limit writes_agent writes_format asked gs meant taken values offered fits h =
    let c = command_asked asked in
    let args = arguments_in asked in
    let lines = lines_read writes_agent writes_format c args in
    let first = options_first args values.in_order in
    let allowed : AreAllowed c offer args =
    λ k d within. record { may_have = (values.allowed k d within).0; in_range = (values.allowed k d within).1; offered = offered k d within } in
    let f = lines_finish offer limit c writes_agent writes_format args gs meant taken first allowed fits h in
    let conveys = lines_convey writes_agent writes_format c args first in
    record {
      front = f.front;
      last = f.last;
      lines = lines;
      of = c;
      whole = f.whole;
      ends = f.ends;
      taken = f.taken;
      once = conveys.conveys_commands;
      asked_is = sym (ap (asked_by c) conveys.conveys_arguments ∙ asks_for_it asked values.in_order);
      kept_is = sym conveys.has_bytes;
      delimited = conveys.is_delimited;
    }

-- the written form of a request is a request for the same
pub reads_back : (offer : Offer) (limit : ℕ) (writes_agent : Option Agent) (writes_format : Bool) (asked : Asked) (gs : List Given)
    → IsFormatMeant offer.format writes_format → takes_command offer (command_asked asked) ≡ true → HasValues offer.format asked → AreOffered offer asked
    → written_bytes asked ≤ limit → Passes (end_checks asked)
    → packets_of gs ≡ lines_written writes_agent writes_format offer.format asked → Asks offer limit gs asked (written_bytes asked)
reads_back offer limit writes_agent writes_format asked gs meant taken values offered fits passes h =
    let r = lines_read_back offer limit writes_agent writes_format asked gs meant taken values offered fits h in
    let checks : Passes (flush_checks_in true offer r.lines) =
    ((r.of, r.once, subst (λ (a : Asked). Passes (end_checks a)) r.asked_is passes), tt) in
    record {
      front = r.front;
      last = r.last;
      lines = r.lines;
      command = r.of;
      whole = r.whole;
      ends = r.ends;
      taken = r.taken;
      once = r.once;
      checks = subst (λ (b : Bool). Passes (flush_checks_in b offer r.lines)) (sym r.delimited) checks;
      asked_is = r.asked_is;
      kept_is = r.kept_is;
    }
