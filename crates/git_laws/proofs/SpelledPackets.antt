-- Packets as they are written: they fit, and their bytes are split into the same packets again.
use Rattle.std.proofs.Common.{arith, ◌≡◌, ◌≤◌, ℕ, ◌+◌, Bool, true, false, All, length, List, [], ◌∷◌, ◌++◌, Option, Some, None, codes}
use Rattle.std.proofs.Common.{refl, ap, if◌then◌else◌, sym, ◌∙◌, append_assoc, length-append}
use Rattle.std.proofs.lemmas.List.Elements.{All-head, All-tail}
use Rattle.git_names.specs.declared.object_format.Format.{Format}
use Rattle.git_names.specs.declared.object_format.Format.TheVariants.{Sha1, Sha256}
use Rattle.git_pkt.specs.Packets.{Pkt, spelling_of}
use Rattle.git_pkt.specs.Splits.{Given, NoneBegins, Splits, SpellsAll}
use Rattle.git_pkt.proofs.Spelling.{none_begins_nothing, same_start}
use Rattle.git_pkt.proofs.Streams.{one_split}
use Rattle.git_pkt.proofs.Written.{spells_written}
use Rattle.git_msg.specs.Agents.{agent_text}
use Rattle.git_msg.proofs.AgentNames.{agent_is_short}
use Rattle.git_msg.specs.declared.agent.Agent.{Agent}
use Rattle.git_msg.specs.declared.arguments.Command.{Command}
use Rattle.git_msg.specs.declared.arguments.Command.TheVariants.{LsRefs, Fetch, ObjectInfo}
use Rattle.git_msg.specs.declared.words.TextWord.{TextWord}
use Rattle.git_msg.specs.Arguments.{Arg, IsValue, name_of, with_text, written_text}
use Rattle.git_msg.specs.Asked.{Asked, HasValues, arguments_in, command_asked}
use Rattle.git_msg.specs.WrittenRequest.{FitsLine, argument_line, argument_lines, argument_part, format_line, is_option, lines_written}
use Rattle.git_msg.specs.WrittenRequest.{options_and_rest, text_line, where_named, where_set}
use Rattle.git_msg.proofs.KeptBytes.{value_fits}
use Rattle.git_client.specs.Machine.Client.{spelled}
use Rattle.git_server.specs.Answers.{AllFit}
use Rattle.git_laws.specs.AnnouncedAnswers.{packets_of}
use Rattle.git_laws.proofs.RequestsReceived.{HaveValues, written_all}

-- ---- packets as they are written

-- the bytes split into these packets
pub record AreSpelled (bytes : List ℕ) (ps : List Pkt) : Type 0 where
  pub given : List Given
  pub are : packets_of given ≡ ps
  pub splits : Splits 0 bytes given []

-- from an offset on
record SpelledFrom (offset : ℕ) (ps : List Pkt) : Type 0 where
  given : List Given
  are : packets_of given ≡ ps
  spells : SpellsAll offset (spelled ps) given []

spelled_from : (offset : ℕ) (ps : List Pkt) → AllFit ps → SpelledFrom offset ps
spelled_from offset [] fit = record { given = []; are = refl; spells = refl }
spelled_from offset (p ∷ ps) (now, fit) =
    let others = spelled_from (offset + length (spelling_of p)) ps fit in
    record {
      given = record { packet = p; offset = offset } ∷ others.given;
      are = ap (λ (l : List Pkt). p ∷ l) others.are;
      spells = (spelling_of p, spelled ps, refl, refl, spells_written p now, others.spells);
    }

pub are_spelled : (bytes : List ℕ) (ps : List Pkt) → AllFit ps → bytes ≡ spelled ps → AreSpelled bytes ps
are_spelled bytes ps fit e =
    let s = spelled_from 0 ps fit in
    record {
      given = s.given;
      are = s.are;
      splits = record { spelled = rw e s.spells; ends = none_begins_nothing };
    }

-- and into no others
pub packets_are : (bytes : List ℕ) (ps : List Pkt) (gs : List Given) (rest : List ℕ) → AreSpelled bytes ps → Splits 0 bytes gs rest → packets_of gs ≡ ps
packets_are bytes ps gs rest s h =
    ap packets_of (one_split 0 bytes gs s.given rest [] h.spelled s.splits.spelled h.ends s.splits.ends).packets ∙ s.are

-- the packets of two lists fit
pub fit_both : (ps qs : List Pkt) → AllFit ps → AllFit qs → AllFit (ps ++ qs)
fit_both [] qs h k = k
fit_both (p ∷ ps) qs (now, h) k = (now, fit_both ps qs h k)

pub fit_front : (ps qs : List Pkt) → AllFit (ps ++ qs) → AllFit ps
fit_front [] qs h = tt
fit_front (p ∷ ps) qs (now, h) = (now, fit_front ps qs h)

-- bytes that begin with the spelling of packets split into these, and others after them
pub front_are : (offset : ℕ) (ps : List Pkt) (more : List ℕ) (gs : List Given) (rest : List ℕ) → AllFit ps → SpellsAll offset (spelled ps ++ more) gs rest
    → NoneBegins rest → (front : List Given) × (back : List Given) × (gs ≡ front ++ back) × (packets_of front ≡ ps)
front_are offset [] more gs rest fit spells none = ([], gs, refl, refl)
front_are offset (p ∷ ps) more [] rest (now, fit) e none =
    absurd (none p (spelling_of p) (spelled ps ++ more) (sym e ∙ append_assoc (spelling_of p) (spelled ps) more) (spells_written p now))
front_are offset (p ∷ ps) more (g ∷ gs) rest (now, fit) (s, later, e, at, is, tail) none =
    let same = same_start p g.packet (spelling_of p) s (spelled ps ++ more) later (spells_written p now) is
    (sym (append_assoc (spelling_of p) (spelled ps) more) ∙ e) in
    let (front, back, whole, are) = front_are (offset + length s) ps more gs rest fit (rw same.rest tail) none in (
      g ∷ front,
      back,
      ap (λ (l : List Given). g ∷ l) whole,
      ap (λ (q : Pkt). q ∷ packets_of front) (sym same.packet) ∙ ap (λ (l : List Pkt). p ∷ l) are,
    )

-- ---- the packets of requests fit

text_fits : (text : List ℕ) (others : List Pkt) → length text ≤ 65515 → AllFit others → AllFit (text_line text ∷ others)
text_fits text others short fit = (omega (arith, short, length-append text (10 ∷ [])), fit)

line_fits : (arg : Arg) (others : List Pkt) → FitsLine arg → AllFit others → AllFit (argument_line arg ∷ others)
line_fits (with_text TextWord.ServerOption text) others short fit = (omega (arith, short), fit)
line_fits (with_text TextWord.Filter text) others short fit = text_fits (written_text (with_text TextWord.Filter text)) others (omega (arith, short)) fit
line_fits arg others short fit = text_fits (written_text arg) others (omega (arith, short)) fit

arguments_fit : (command : Command) (format : Format) (args : List Arg) → All (IsValue command format) args → AllFit (argument_lines args)
arguments_fit command format [] values = (omega arith, tt)
arguments_fit command format (arg ∷ args) values =
    line_fits arg (argument_lines args) (value_fits format arg (All-head (IsValue command format) arg args values).1)
    (arguments_fit command format args (All-tail (IsValue command format) arg args values))

agent_fits : (named : Option Agent) (others : List Pkt) → AllFit others → AllFit (where_named named others)
agent_fits (Some agent) others fit = text_fits (codes "agent=" ++ agent_text agent) others (omega (arith, agent_is_short agent)) fit
agent_fits None others fit = fit

format_fits : (format : Format) (conveys : Bool) (others : List Pkt) → AllFit others → AllFit (where_set conveys (format_line format) others)
format_fits Sha1 true others fit = text_fits (codes "object-format=sha1") others (omega arith) fit
format_fits Sha256 true others fit = text_fits (codes "object-format=sha256") others (omega arith) fit
format_fits format false others fit = fit

either_fits : (is : Bool) (some others : List Pkt) → AllFit some → AllFit others → AllFit (if is then some else others)
either_fits true some others fit rest = fit
either_fits false some others fit rest = rest

-- the server options and all behind them
rest_fits : (command : Command) (format written : Format) (conveys : Bool) (args : List Arg) → All (IsValue command written) args
    → AllFit (options_and_rest conveys format args)
rest_fits command format written conveys [] values = format_fits format conveys _ (omega arith, (omega arith, tt))
rest_fits command format written conveys (arg ∷ args) values =
    either_fits (is_option arg) (argument_line arg ∷ options_and_rest conveys format args)
    (where_set conveys (format_line format) (argument_part (arg ∷ args)))
    (line_fits arg (options_and_rest conveys format args) (value_fits written arg (All-head (IsValue command written) arg args values).1)
    (rest_fits command format written conveys args (All-tail (IsValue command written) arg args values)))
    (format_fits format conveys _ (omega arith, arguments_fit command written (arg ∷ args) values))

command_fits : (command : Command) (others : List Pkt) → AllFit others → AllFit (text_line (codes "command=" ++ name_of command) ∷ others)
command_fits LsRefs others fit = text_fits (codes "command=ls-refs") others (omega arith) fit
command_fits Fetch others fit = text_fits (codes "command=fetch") others (omega arith) fit
command_fits ObjectInfo others fit = text_fits (codes "command=object-info") others (omega arith) fit

request_fits : (writes_agent : Option Agent) (writes_format : Bool) (format written : Format) (q : Asked) → HasValues written q
    → AllFit (lines_written writes_agent writes_format format q)
request_fits writes_agent writes_format format written q values =
    command_fits (command_asked q) _ (agent_fits writes_agent _
    (rest_fits (command_asked q) format written writes_format (arguments_in q) values.allowed))

pub requests_fit : (writes_agent : Option Agent) (writes_format : Bool) (format : Format) (asked : List Asked) → HaveValues asked
    → AllFit (written_all writes_agent writes_format format asked)
requests_fit writes_agent writes_format format [] values = tt
requests_fit writes_agent writes_format format (q ∷ asked) values =
    let (written, in_written) = All-head (λ (q : Asked). (format : Format) × HasValues format q) q asked values in
    fit_both (lines_written writes_agent writes_format format q) _ (request_fits writes_agent writes_format format written q in_written)
    (requests_fit writes_agent writes_format format asked (All-tail (λ (q : Asked). (format : Format) × HasValues format q) q asked values))
