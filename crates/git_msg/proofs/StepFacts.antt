-- The effect of single packets, from the contracts of the reader's parts.
use Rattle.std.proofs.Common.{◌≡◌, ◌≢◌, ◌⊎◌, ℕ, ◌+◌, ◌≤◌, Bool, true, false, not, ◌||◌, Option, Some, None, Ok, Err, option_to_list, List, [], ◌∷◌, ◌++◌}
use Rattle.std.proofs.Common.{refl, ap, sym, ◌∙◌, subst, inl, inr, arith, rules, length}
use Rattle.std.specs.Prelude.{is_some}
use Rattle.std.proofs.lemmas.List.{append-nil}
use Rattle.git_names.specs.declared.object_format.Format.{Format}
use Rattle.git_pkt.specs.Packets.{Pkt, flush, delim, resp_end, payload, text_of}
use Rattle.git_pkt.specs.declared.fault.Kind.{Kind}
use Rattle.git_pkt.specs.declared.fault.Kind.TheVariants.{TooMuchKept, UnexpectedPacket}
use Rattle.git_msg.specs.declared.offers.Offer.{Offer}
use Rattle.git_msg.specs.declared.arguments.Command.{Command}
use Rattle.git_msg.specs.declared.arguments.Command.TheVariants.{LsRefs}
use Rattle.git_msg.specs.declared.capability_key.Key.{Key}
use Rattle.git_msg.specs.declared.capability_key.Key.TheVariants.{CommandKey, ServerOptionKey}
use Rattle.git_msg.specs.declared.requests.Request.{Request}
use Rattle.git_msg.specs.declared.reader.Part.{Part}
use Rattle.git_msg.specs.declared.reader.Part.TheVariants.{Capabilities, Arguments}
use Rattle.git_msg.specs.declared.reader.RequestReader.{RequestReader}
use Rattle.git_msg.specs.declared.reader.Taken.TheVariants.{More, Whole}
use Rattle.git_msg.specs.Admission.{IsAdmitted}
use Rattle.git_msg.specs.declared.words.TextWord.{TextWord}
use Rattle.git_msg.specs.declared.words.Word.TheVariants.{Text as of_text}
use Rattle.git_msg.specs.Arguments.{Arg, with_text, most_option, written_text, IsValue}
use Rattle.git_msg.specs.Asked.{Asked, arguments_in, asked_by, asked_for, command_asked, of_word, with_argument}
use Rattle.git_msg.specs.Checks.{Check, Refuses, Passes}
use Rattle.git_msg.specs.Kept.{IsUnkept}
use Rattle.git_msg.specs.Lines.{Line, command, unkept as unkept_line, server_option, object_format, delimiter, argument, is_none, commands_of, arguments_of}
use Rattle.git_msg.specs.Lines.{command_in, argument_in, option_in, long_of, is_delimiter, is_object_format, options_of, kept_arguments, kept_in}
use Rattle.git_msg.specs.Lines.{has_delimiter, has_format, HasKey, FitsLimit, IsLine, IsLineOf, IsArgumentText, IsCapabilityLine}
use Rattle.git_msg.specs.Lines.{capability_checks, key_checks, limit_check}
use Rattle.git_msg.specs.Lines.{argument_checks, text_checks, noting_checks, part_checks, end_checks, IsArgumentRefused, HasFault}
use Rattle.git_msg.specs.Machine.HeldRequest.{IsBounded, Keeps, asked_of, command_of, holding_of, kept_of, limit_of}
use Rattle.git_msg.specs.Machine.JudgedLine.{IsText}
use Rattle.git_msg.specs.Machine.RequestReader.{InCapabilities, InArguments, InLines, is_nil, fault_in, limit_in, kept_so_far}
use Rattle.git_msg.specs.Machine.RequestReaderSteps.{Begins, Goes, IsExpected, IsFree, IsNoted, IsUnnoted, LacksMemory, Notes, StepsOn, is_first}
use Rattle.git_msg.proofs.ArgumentsInOrder.{asked_snoc, command_for}
use Rattle.git_msg.proofs.Admission.{barred_for_limit, barred_text}
use Rattle.git_msg.proofs.BoundedRequests.{same_with}
use Rattle.git_msg.proofs.FurtherArguments.{one_more}
use Rattle.git_msg.proofs.LineLaws.{line_passes, no_argument_of}
use Rattle.git_msg.proofs.LineLists.{commands_snoc, arguments_snoc, options_snoc, format_snoc, delimiter_snoc, kept_snoc, argument_is_line}
use Rattle.git_msg.proofs.LineLists.{capability_is_line, options_kept, written_options}
use Rattle.git_msg.proofs.PacketFaults.{not_for_limit_by_end, not_for_limit_by_text}

-- no command was read, in both ways to state it
pub first_by : (o : Option Command) (b : Bool) → is_some o ≡ not b → b ≡ is_none (option_to_list o)
first_by None true h = refl
first_by None false h = cc
first_by (Some c) true h = cc
first_by (Some c) false h = refl

pub no_command_list : (cs : List Command) → is_none cs ≡ true → cs ≡ []
no_command_list [] h = refl
no_command_list (c ∷ cs) h = cc

snoc_is_some : (lines : List Line) (line : Line) → is_nil (lines ++ line ∷ []) ≡ false
snoc_is_some [] line = refl
snoc_is_some (l ∷ ls) line = refl

-- a line of the capability part is neither a delimiter nor an argument
no_delimiter : (key : Key) (value : Option (List ℕ)) → IsLineOf key value delimiter → ⊥
no_delimiter CommandKey value h = h
no_delimiter ServerOptionKey None h = h
no_delimiter ServerOptionKey (Some option) h = h
no_delimiter key value h = h

-- a command line is the first
first_command : (offer : Offer) (first : Bool) (key : Key) (value : Option (List ℕ)) (c : Command)
    → Passes (key_checks offer first key value) → IsLineOf key value (command c) → first ≡ true
first_command offer first CommandKey value c h is = h.0
first_command offer first ServerOptionKey None c h is = absurd is
first_command offer first ServerOptionKey (Some option) c h is = absurd is
first_command offer first key value c h is = absurd is

-- an argument's text that is refused
text_refused : (c : Command) (offer : Offer) (limit kept : ℕ) (text : List ℕ) (kind : Kind)
    → Refuses (text_checks c offer text) kind → Refuses (argument_checks offer limit c kept text) kind
text_refused c offer limit kept text kind (inl h) = inl h
text_refused c offer limit kept text kind (inr (no_error, inl h)) = inr (no_error, inl h)
text_refused c offer limit kept text kind (inr (no_error, inr h)) = absurd h.1

-- what refuses the first of some checks refuses all
refuses_before : (cs : List Check) (c : Check) (kind : Kind) → Refuses cs kind → Refuses (cs ++ c ∷ []) kind
refuses_before [] c kind h = absurd h
refuses_before (first ∷ cs) c kind (inl h) = inl h
refuses_before (first ∷ cs) c kind (inr h) = inr (h.0, refuses_before cs c kind h.1)

refuses_last : (cs : List Check) (c : Check) (kind : Kind) → Passes cs → c.refuses kind → Refuses (cs ++ c ∷ []) kind
refuses_last [] c kind p h = inl h
refuses_last (first ∷ cs) c kind p h = inr (p.0, refuses_last cs c kind p.1 h)

-- the text of a server option is as long as it is written
option_spelled : (text option : List ℕ) → HasKey text ServerOptionKey (Some option) → text ≡ written_text (with_text TextWord.ServerOption option)
option_spelled text option h = h.is_capability.1 ∙ ap (λ (word : List ℕ). word ++ 61 ∷ option) h.is_word

option_key : (key : Key) (value : Option (List ℕ)) (option text : List ℕ) → IsLineOf key value (server_option option) → HasKey text key value
    → HasKey text ServerOptionKey (Some option)
option_key ServerOptionKey (Some value) option text h k = subst (λ (v : List ℕ). HasKey text ServerOptionKey (Some v)) h k
option_key ServerOptionKey None option text h k = absurd h
option_key CommandKey value option text h k = absurd h
option_key key value option text h k = absurd h

option_fits : (offer : Offer) (first : Bool) (key : Key) (value : Option (List ℕ)) (option : List ℕ)
    → IsLineOf key value (server_option option) → Passes (key_checks offer first key value) → length option ≤ most_option
option_fits offer first ServerOptionKey (Some value) option h k = subst (λ (v : List ℕ). length v ≤ most_option) h k.1.0
option_fits offer first ServerOptionKey None option h k = absurd h
option_fits offer first CommandKey value option h k = absurd h
option_fits offer first key value option h k = absurd h

-- a line that is a server option
module _ (offer : Offer) (first : Bool) (text option : List ℕ) (is : IsCapabilityLine offer first text (server_option option)) where
  has_option : HasKey text ServerOptionKey (Some option)
  has_option = option_key is.key is.value option text is.line_is is.has_key

  pub option_long : length text ≡ length (written_text (with_text TextWord.ServerOption option))
  option_long = ap length (option_spelled text option has_option)

  pub option_value : (c : Command) (format : Format) → IsValue c format (with_text TextWord.ServerOption option)
  option_value c format = (tt, (has_option.is_capability.2, option_fits offer first is.key is.value option is.line_is is.allowed))

module _ {A : Type 0} where
  -- a text that is refused by itself, for the limit, or for lack of memory
  pub unnoted_by_itself : (r : RequestReader A) (text : List ℕ) (kind : Kind) → Refuses (capability_checks r.offer (is_first r) text) kind
      → IsUnnoted r text kind
  unnoted_by_itself r text kind h =
      inl (refuses_before (capability_checks r.offer (is_first r) text) (limit_check r.offer (limit_in r) (is_first r) (kept_so_far r) text) kind h)

  -- the same for a text that was noted
  pub notes : (r new : RequestReader A) (text : List ℕ) (first : Bool) (line : Line) → first ≡ is_first r → IsCapabilityLine r.offer first text line
      → FitsLimit (limit_in r) (kept_so_far r) line → IsNoted line r new → Notes r text new
  notes r new text first line same is in_limit n = record {
    line = line;
    is_line = subst (λ (b : Bool). IsCapabilityLine r.offer b text line) same is;
    fits_limit = in_limit;
    new_is = n;
  }

  pub notes_option : (r new : RequestReader A) (q : Request A) (text option : List ℕ) (first : Bool) → first ≡ is_first r
      → IsCapabilityLine r.offer first text (server_option option) → kept_so_far r + length text ≤ limit_in r
      → Keeps r.request (with_text TextWord.ServerOption option) (length text) q → new.request ≡ q
      → new.offer ≡ r.offer → new.part ≡ r.part → new.begun ≡ true → new.command ≡ r.command → new.has_format ≡ r.has_format → Notes r text new
  notes_option r new q text option first same is fits keeps request_is of_offer of_part begun by_command by_format =
      let long = option_long r.offer first text option is in
      let counted = subst (λ (n : ℕ). Keeps r.request (with_text TextWord.ServerOption option) n q) long keeps in
      notes r new text first (server_option option) same is (omega (arith, fits, long)) (record {
        offer = of_offer;
        part = of_part;
        begun = begun;
        command = by_command;
        has_format = by_format;
        request = subst (λ (x : Request A). Keeps r.request (with_text TextWord.ServerOption option) (long_of (server_option option)) x)
            (sym request_is) counted;
      })

  pub unnoted_option : (r : RequestReader A) (text option : List ℕ) (kind : Kind) → IsCapabilityLine r.offer (is_first r) text (server_option option)
      → IsUnkept (holding_of r.request) (with_text TextWord.ServerOption option) (length text) kind → IsUnnoted r text kind
  unnoted_option r text option kind is (inl (over, name)) =
      inl (refuses_last (capability_checks r.offer (is_first r) text) (limit_check r.offer (limit_in r) (is_first r) (kept_so_far r) text) kind
      (line_passes r.offer (is_first r) text (server_option option) is)
      ((server_option option, is, omega (arith, over, option_long r.offer (is_first r) text option is)), name))
  unnoted_option r text option kind is (inr (fits, takes, name)) = inr (record {
    line = server_option option;
    is_line = is;
    fits_limit = omega (arith, fits, option_long r.offer (is_first r) text option is);
    needs_memory = tt;
    name = name;
  })

  module _ (line : Line) (lines : List Line) (r new : RequestReader A) (n : IsNoted line r new) (h : InCapabilities lines r) where
    -- one more line, by what it changes
    noted_as : is_delimiter line ≡ false → argument_in line ≡ None
        → commands_of lines ++ option_to_list (command_in line) ≡ option_to_list new.command
        → asked_of new.request ≡ asked_by LsRefs (options_of lines ++ option_to_list (option_in line))
        → kept_of new.request ≡ kept_in lines + long_of line
        → InCapabilities (lines ++ line ∷ []) new
    noted_as none nothing commands asks keeps = record {
      before = delimiter_snoc lines line ∙ rw none h.before;
      begun = snoc_is_some lines line ∙ ap not (sym n.begun);
      command = commands_snoc lines line ∙ commands;
      format = format_snoc lines line ∙ ap (λ (b : Bool). is_object_format line || b) h.format ∙ sym n.has_format;
      no_argument = arguments_snoc lines line ∙ rw nothing (append-nil (arguments_of lines) ∙ h.no_argument);
      asked = asks ∙ ap (asked_by LsRefs) (sym (options_snoc lines line));
      kept = keeps ∙ sym (kept_snoc lines line);
    }

    same_commands : new.command ≡ r.command → commands_of lines ++ [] ≡ option_to_list new.command
    same_commands same = append-nil (commands_of lines) ∙ h.command ∙ ap option_to_list (sym same)

    same_asked : new.request ≡ r.request → asked_of new.request ≡ asked_by LsRefs (options_of lines ++ [])
    same_asked same = ap asked_of same ∙ h.asked ∙ ap (asked_by LsRefs) (sym (append-nil (options_of lines)))

    same_kept : new.request ≡ r.request → kept_of new.request ≡ kept_in lines + 0
    same_kept same = omega (arith, ap kept_of same, h.kept)

  noted_in : (line : Line) (lines : List Line) (r new : RequestReader A) (text : List ℕ) → IsNoted line r new → InCapabilities lines r
      → IsCapabilityLine r.offer (is_first r) text line → InCapabilities (lines ++ line ∷ []) new
  noted_in (command c) lines r new text n h is =
      let none = h.command ∙ no_command_list (option_to_list r.command) (first_command r.offer (is_first r) is.key is.value c is.allowed is.line_is) in
      noted_as (command c) lines r new n h refl refl
      (ap (λ (cs : List Command). cs ++ c ∷ []) none ∙ ap option_to_list (sym n.command))
      (same_asked (command c) lines r new n h n.request) (same_kept (command c) lines r new n h n.request)
  noted_in unkept_line lines r new text n h is =
      noted_as unkept_line lines r new n h refl refl (same_commands unkept_line lines r new n h n.command)
      (same_asked unkept_line lines r new n h n.request) (same_kept unkept_line lines r new n h n.request)
  noted_in (server_option option) lines r new text n h is =
      noted_as (server_option option) lines r new n h refl refl (same_commands (server_option option) lines r new n h n.command)
      (n.request.asked ∙ ap (λ (a : Asked). with_argument a (with_text TextWord.ServerOption option)) h.asked
      ∙ sym (asked_snoc LsRefs (options_of lines) (with_text TextWord.ServerOption option)))
      (n.request.kept ∙ ap (λ (k : ℕ). k + long_of (server_option option)) h.kept)
  noted_in object_format lines r new text n h is =
      noted_as object_format lines r new n h refl refl (same_commands object_format lines r new n h n.command)
      (same_asked object_format lines r new n h n.request) (same_kept object_format lines r new n h n.request)
  noted_in delimiter lines r new text n h is = absurd (no_delimiter is.key is.value is.line_is)
  noted_in (argument arg long) lines r new text n h is = absurd (no_argument_of is.key is.value arg long is.line_is)

  noted_limit : (line : Line) (r new : RequestReader A) → IsNoted line r new → limit_in new ≡ limit_in r
  noted_limit (server_option option) r new n = n.request.limit
  noted_limit line r new n = ap limit_of n.request

  in_capabilities : (lines : List Line) (r : RequestReader A) → r.part ≡ Capabilities → InLines r.part lines r → InCapabilities lines r
  in_capabilities lines r part h = subst (λ (x : Part). InLines x lines r) part h

  in_arguments : (lines : List Line) (r : RequestReader A) → r.part ≡ Arguments → InLines r.part lines r → InArguments lines r
  in_arguments lines r part h = subst (λ (x : Part). InLines x lines r) part h

  capability_refused : (lines : List Line) (r : RequestReader A) (bytes : List ℕ) (kind : Kind) → InCapabilities lines r
      → Refuses (noting_checks r.offer (limit_in r) (is_first r) (kept_so_far r) (text_of bytes)) kind
      → HasFault r.offer (limit_in r) lines (payload bytes) kind
  capability_refused lines r bytes kind h refuses = rw (h.before, ap is_none h.command, sym h.kept) refuses

  capability_line : (lines : List Line) (r : RequestReader A) (bytes : List ℕ) (line : Line) → InCapabilities lines r
      → IsCapabilityLine r.offer (is_first r) (text_of bytes) line → FitsLimit (limit_in r) (kept_so_far r) line
      → IsLine r.offer (limit_in r) lines (payload bytes) line
  capability_line lines r bytes line h is in_limit =
      capability_is_line r.offer (limit_in r) lines bytes line h.before (rw (ap is_none h.command) is)
      (subst (λ (kept : ℕ). FitsLimit (limit_in r) kept line) h.kept in_limit)

  -- the checks at the end of the capability part, by the lines
  judged : (lines : List Line) (r : RequestReader A) (c : Command)
      → InCapabilities lines r → IsExpected r c → Passes (part_checks r.offer (commands_of lines) (has_format lines))
  judged lines r c h expected = search rules

  commands_expected : (lines : List Line) (r : RequestReader A) (c : Command) → InCapabilities lines r → IsExpected r c → commands_of lines ≡ c ∷ []
  commands_expected lines r c h expected = h.command ∙ ap option_to_list expected.there

  -- a request without delimiter asks for its server options, whatever its command
  options_asked : (lines : List Line) (r : RequestReader A) (c : Command) → InCapabilities lines r
      → asked_for c (arguments_in (asked_of r.request)) ≡ asked_by c (kept_arguments lines)
  options_asked lines r c h =
      ap (λ (a : Asked). asked_for c (arguments_in a)) h.asked ∙ ap (asked_by c) (sym (options_kept lines h.no_argument))

  begun_asked : (lines : List Line) (r new : RequestReader A) (c : Command) → InCapabilities lines r → Begins c r new
      → asked_of new.request ≡ asked_by c (kept_arguments lines)
  begun_asked lines r new c h b =
      b.asked
      ∙ ap (λ (a : Asked). asked_for c (of_word (of_text TextWord.ServerOption) (arguments_in a))) h.asked
      ∙ ap (asked_for c) (written_options lines)
      ∙ ap (asked_by c) (sym (options_kept lines h.no_argument))

  begun_command : (r new : RequestReader A) (c : Command) → Begins c r new → command_of new.request ≡ c
  begun_command r new c b = ap command_asked b.asked ∙ command_for c (of_word (of_text TextWord.ServerOption) (arguments_in (asked_of r.request)))

  -- a request of this command, by the lines
  begun_once : (lines : List Line) (r new : RequestReader A) (c : Command) → InCapabilities lines r → IsExpected r c → Begins c r new
      → commands_of lines ≡ command_of new.request ∷ []
  begun_once lines r new c h expected b =
      commands_expected lines r c h expected ∙ ap (λ (x : Command). x ∷ []) (sym (begun_command r new c b))

  begun_for : (lines : List Line) (r new : RequestReader A) (c : Command) → InCapabilities lines r → Begins c r new
      → asked_of new.request ≡ asked_by (command_of new.request) (kept_arguments lines)
  begun_for lines r new c h b =
      begun_asked lines r new c h b ∙ ap (λ (x : Command). asked_by x (kept_arguments lines)) (sym (begun_command r new c b))

  -- the delimiter begins the arguments
  begun_arguments : (lines : List Line) (r mid : RequestReader A) (c : Command) (bounded : IsBounded mid.offer mid.request) → InCapabilities lines r
      → IsExpected r c → Begins c r mid → InArguments (lines ++ delimiter ∷ []) (record mid { part = Arguments; bounded = bounded })
  begun_arguments lines r mid c bounded h expected b = record {
    behind = delimiter_snoc lines delimiter;
    command = commands_snoc lines delimiter ∙ append-nil (commands_of lines) ∙ begun_once lines r mid c h expected b;
    asked = begun_for lines r mid c h b
        ∙ ap (asked_by (command_of mid.request)) (options_kept lines h.no_argument ∙ sym delimited_options);
    kept = b.kept ∙ h.kept ∙ sym (kept_behind);
  }
    where
      no_argument : arguments_of (lines ++ delimiter ∷ []) ≡ []
      no_argument = arguments_snoc lines delimiter ∙ append-nil (arguments_of lines) ∙ h.no_argument

      delimited_options : kept_arguments (lines ++ delimiter ∷ []) ≡ options_of lines
      delimited_options =
          options_kept (lines ++ delimiter ∷ []) no_argument ∙ options_snoc lines delimiter ∙ append-nil (options_of lines)

      kept_behind : kept_in (lines ++ delimiter ∷ []) ≡ kept_in lines
      kept_behind = omega (arith, kept_snoc lines delimiter)

  -- the text of an argument that is refused
  argument_refused : (lines : List Line) (r : RequestReader A) (text : List ℕ) (kind : Kind) → InArguments lines r
      → Refuses (text_checks (command_of r.request) r.offer text) kind → IsArgumentRefused r.offer (limit_in r) lines text kind
  argument_refused lines r text kind h refuses = search (rules, text_refused)

  -- the text of an argument
  argument_text : (lines : List Line) (r : RequestReader A) (text : List ℕ) (arg : Arg) → InArguments lines r
      → IsText (command_of r.request) r.offer text arg → IsArgumentText r.offer lines text arg
  argument_text lines r text arg h is = record { no_error = is.no_error; of = command_of r.request; asked = h.command; reads = is.reads }

  -- the line of an argument within the limit
  argument_line : (lines : List Line) (r : RequestReader A) (bytes : List ℕ) (arg : Arg) → InArguments lines r
      → IsText (command_of r.request) r.offer (text_of bytes) arg → kept_so_far r + length (text_of bytes) ≤ limit_in r
      → IsLine r.offer (limit_in r) lines (payload bytes) (argument arg (length (text_of bytes)))
  argument_line lines r bytes arg h is fits = search (rules, argument_is_line, argument_text)

  module _ (barred : Arg → Option Kind) where
    -- no packet of the capability part is barred
    free_before : (lines : List Line) (r : RequestReader A) (p : Pkt) → has_delimiter lines ≡ false → IsFree barred lines r p
    free_before lines r p before kind b = let behind = b.behind in cc

    -- nor one that is refused by itself
    by_itself : (lines : List Line) (r : RequestReader A) (p : Pkt) (kind : Kind) → HasFault r.offer (limit_in r) lines p kind → kind ≢ TooMuchKept
        → Goes barred lines r p (Err kind) r
    by_itself lines r p kind fault other =
        inr ((λ name b. other (barred_for_limit r.offer (limit_in r) barred lines p kind name fault b)), inl fault)

    -- nor an argument that is admitted
    free_argument : (lines : List Line) (r : RequestReader A) (bytes : List ℕ) (arg : Arg) → IsArgumentText r.offer lines (text_of bytes) arg
        → IsAdmitted barred arg → IsFree barred lines r (payload bytes)
    free_argument lines r bytes arg is admitted kind b =
        let refuses = barred_text r.offer (limit_in r) barred lines (payload bytes) bytes arg kind refl is b in cc

    -- a line was noted
    pub noted : (r new : RequestReader A) (bytes : List ℕ) → r.part ≡ Capabilities → Notes r (text_of bytes) new
        → StepsOn barred r (payload bytes) (Ok More) new
    noted r new bytes part h =
        let now : new.part ≡ Capabilities = h.new_is.part ∙ part in
        record {
          goes = λ lines it.
              let there = in_capabilities lines r part it in
              record {
                line = h.line;
                is_line = capability_line lines r bytes h.line there h.is_line h.fits_limit;
                free = free_before lines r (payload bytes) there.before;
                in_lines = subst (λ (x : Part). InLines x (lines ++ h.line ∷ []) new) (sym now)
                    (noted_in h.line lines r new (text_of bytes) h.new_is there h.is_line);
              };
          leaves = ap fault_in now;
          offer = h.new_is.offer;
          limit = noted_limit h.line r new h.new_is;
        }

    -- a line of the capability part is not noted
    pub refused : (r new : RequestReader A) (bytes : List ℕ) (kind : Kind)
        → r.part ≡ Capabilities → new ≡ r → IsUnnoted r (text_of bytes) kind
        → StepsOn barred r (payload bytes) (Err kind) new
    refused r new bytes kind part same h = rw same (record {
      goes = λ lines it.
          let there = in_capabilities lines r part it in
          inr (free_before lines r (payload bytes) there.before, why lines there h);
      leaves = refl;
      offer = refl;
      limit = refl;
    })
      where
        why : (lines : List Line) → InCapabilities lines r → IsUnnoted r (text_of bytes) kind
            → HasFault r.offer (limit_in r) lines (payload bytes) kind ⊎ LacksMemory lines r (payload bytes) kind
        why lines there (inl refuses) = inl (capability_refused lines r bytes kind there refuses)
        why lines there (inr lacks) = inr (record {
          line = lacks.line;
          is_line = capability_line lines r bytes lacks.line there lacks.is_line lacks.fits_limit;
          needs_memory = lacks.needs_memory;
          name = lacks.name;
        })

    -- the delimiter
    pub delimited : (r mid : RequestReader A) (c : Command) (bounded : IsBounded mid.offer mid.request) → r.part ≡ Capabilities → IsExpected r c
        → Begins c r mid → StepsOn barred r delim (Ok More) (record mid { part = Arguments; bounded = bounded })
    delimited r mid c bounded part expected b = record {
      goes = λ lines it.
          let there = in_capabilities lines r part it in
          record {
            line = delimiter;
            is_line = rw there.before (judged lines r c there expected);
            free = free_before lines r delim there.before;
            in_lines = begun_arguments lines r mid c bounded there expected b;
          };
      leaves = refl;
      offer = b.offer;
      limit = b.limit;
    }

    -- the flush of a request without delimiter, refused for what the request asks for
    pub flush_refused : (r : RequestReader A) (c : Command) (kind : Kind) → r.part ≡ Capabilities → r.begun ≡ true → IsExpected r c
        → Refuses (end_checks (asked_for c (arguments_in (asked_of r.request)))) kind → StepsOn barred r flush (Err kind) r
    flush_refused r c kind part begun expected refuses = record {
      goes = λ lines it.
          let there = in_capabilities lines r part it in
          let some : lines ≢ [] = (λ none. let is : is_nil lines ≡ false = there.begun ∙ ap not begun in let nil = ap is_nil none in cc) in
          let passes = judged lines r c there expected in
          let at_end : Refuses (end_checks (asked_by c (kept_arguments lines))) kind =
          subst (λ (a : Asked). Refuses (end_checks a) kind) (options_asked lines r c there) refuses in
          inr (
            free_before lines r flush there.before,
            inl (rw there.before (some, inr (passes.0, inr (passes.1.0, inl (c, commands_expected lines r c there expected, at_end))))),
          );
      leaves = refl;
      offer = refl;
      limit = refl;
    }

    -- the flush of a request without delimiter
    pub flushed : (r new : RequestReader A) (c : Command) → r.part ≡ Capabilities → IsExpected r c
        → Passes (end_checks (asked_for c (arguments_in (asked_of r.request)))) → Begins c r new
        → StepsOn barred r flush (Ok Whole) new
    flushed r new c part expected passes b = record {
      goes = λ lines it.
          let there = in_capabilities lines r part it in
          let in_part = judged lines r c there expected in
          let at_end : Passes (end_checks (asked_by c (kept_arguments lines))) =
          subst (λ (a : Asked). Passes (end_checks a)) (options_asked lines r c there) passes in
          record {
            ends = refl;
            once = begun_once lines r new c there expected b;
            checks = rw there.before (in_part.0, (in_part.1.0, ((c, commands_expected lines r c there expected, at_end), tt)));
            asked = begun_for lines r new c there b;
            kept = b.kept ∙ there.kept;
          };
      leaves = ap fault_in (b.part ∙ part);
      offer = b.offer;
      limit = b.limit;
    }

    -- the flush after the arguments
    pub completed : (r : RequestReader A) → r.part ≡ Arguments → Passes (end_checks (asked_of r.request)) → StepsOn barred r flush (Ok Whole) r
    completed r part passes = search (rules, in_arguments)

    -- the flush after the arguments, refused for what the request asks for
    pub end_refused : (r : RequestReader A) (kind : Kind) → r.part ≡ Arguments → Refuses (end_checks (asked_of r.request)) kind
        → StepsOn barred r flush (Err kind) r
    end_refused r kind part refuses = search (rules, in_arguments, by_itself, not_for_limit_by_end)

    -- another packet after the delimiter
    pub strange : (r : RequestReader A) (p : Pkt) → r.part ≡ Arguments → (p ≡ delim) ⊎ (p ≡ resp_end) → StepsOn barred r p (Err UnexpectedPacket) r
    strange r p part is = search (rules, in_arguments, by_itself)

    pub unread : (r : RequestReader A) (bytes : List ℕ) (kind : Kind)
        → r.part ≡ Arguments → Refuses (text_checks (command_of r.request) r.offer (text_of bytes)) kind → StepsOn barred r (payload bytes) (Err kind) r
    unread r bytes kind part refuses = record {
      goes = λ lines it.
          let there = in_arguments lines r part it in
          by_itself lines r (payload bytes) kind (rw there.behind (argument_refused lines r (text_of bytes) kind there refuses))
          (not_for_limit_by_text (command_of r.request) r.offer (text_of bytes) kind refuses);
      leaves = refl;
      offer = refl;
      limit = refl;
    }

    module _ (r : RequestReader A) (bytes : List ℕ) (arg : Arg) (part : r.part ≡ Arguments) (is : IsText (command_of r.request) r.offer (text_of bytes) arg)
        (admitted : IsAdmitted barred arg) (q : Request A) (bounded : IsBounded r.offer q) where
      -- an argument that is kept
      pub kept : kept_so_far r + length (text_of bytes) ≤ limit_in r → Keeps r.request arg (length (text_of bytes)) q
          → StepsOn barred r (payload bytes) (Ok More) (record r { request = q; bounded = bounded })
      kept fits keeps = record {
        goes = λ lines it.
            let there = in_arguments lines r part it in
            record {
              line = argument arg (length (text_of bytes));
              is_line = argument_line lines r bytes arg there is fits;
              free = free_argument lines r bytes arg (argument_text lines r (text_of bytes) arg there is) admitted;
              in_lines = subst
                  (λ (x : Part). InLines x (lines ++ argument arg (length (text_of bytes)) ∷ []) (record r { request = q; bounded = bounded })) (sym part)
                  (one_more lines arg (length (text_of bytes)) r q bounded there keeps);
            };
        leaves = ap fault_in part;
        offer = refl;
        limit = keeps.limit;
      }

      -- one that is not, because of the limit or of memory
      pub unkept : (kind : Kind) → IsUnkept (holding_of r.request) arg (length (text_of bytes)) kind → q ≡ r.request
          → StepsOn barred r (payload bytes) (Err kind) (record r { request = q; bounded = bounded })
      unkept kind why same = record {
        goes = λ lines it.
            let there = in_arguments lines r part it in
            inr (free_argument lines r bytes arg (argument_text lines r (text_of bytes) arg there is) admitted, by lines there why);
        leaves = same_with r q bounded same;
        offer = refl;
        limit = ap limit_of same;
      }
        where
          by : (lines : List Line) → InArguments lines r → IsUnkept (holding_of r.request) arg (length (text_of bytes)) kind
              → HasFault r.offer (limit_in r) lines (payload bytes) kind ⊎ LacksMemory lines r (payload bytes) kind
          by lines there (inl (over, name)) =
              let it : IsArgumentRefused r.offer (limit_in r) lines (text_of bytes) kind = record {
                of = command_of r.request;
                asked = there.command;
                refuses = inr (is.no_error, inr ((arg, is.reads), inl (omega (arith, over, there.kept), name)));
              } in
              inl (rw there.behind it)
          by lines there (inr (fits, takes, name)) =
              inr (record { line = argument arg _; is_line = argument_line lines r bytes arg there is fits; needs_memory = takes; name = name })
