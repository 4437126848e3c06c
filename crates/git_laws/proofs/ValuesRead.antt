-- The values of requests that a server reads: object names have its format, whatever the format of the request.
use Rattle.std.proofs.Common.{arith, ◌≡◌, ℕ, Bool, true, false, All, map, List, [], ◌∷◌, ◌++◌, refl, subst, sym, ◌∙◌}
use Rattle.std.proofs.lemmas.Bool.{or_left, or_right}
use Rattle.std.proofs.lemmas.List.Elements.{All-cons, All-head, All-nil, All-tail}
use Rattle.git_names.specs.ObjectName.{IsObjectName, ObjectName, hex_of}
use Rattle.git_names.specs.declared.object_format.Format.{Format}
use Rattle.git_names.specs.declared.object_format.Format.TheVariants.{Sha1, Sha256}
use Rattle.git_pkt.specs.Packets.{Pkt, delim, payload}
use Rattle.git_pkt.specs.Splits.{Given}
use Rattle.git_pkt.proofs.Texts.{text_of-line_end}
use Rattle.git_msg.specs.declared.arguments.Command.{Command}
use Rattle.git_msg.specs.declared.offers.Offer.{Offer}
use Rattle.git_msg.specs.Arguments.{Arg, HasArgument, IsInRange, IsNameIn, IsValue, line_of, with_id, with_text, word_of, written_text, written_value}
use Rattle.git_msg.specs.declared.words.Word.TheVariants.{Object as of_object}
use Rattle.git_msg.specs.declared.words.ObjectWord.{ObjectWord}
use Rattle.git_msg.specs.declared.words.TextWord.{TextWord}
use Rattle.git_msg.specs.Lines.{IsLineIn, Line, delimiter, has_delimiter, is_delimiter}
use Rattle.git_msg.specs.Requests.{AreLines}
use Rattle.git_msg.specs.WrittenRequest.{argument_line, is_option}
use Rattle.git_msg.proofs.LineLaws.{payload_argument}
use Rattle.git_msg.proofs.OptionsFirst.{HaveNoOption}
use Rattle.git_msg.proofs.RoundTrip.{ends_with_line_feed}
use Rattle.git_msg.proofs.LineLists.{delimiter_snoc}
use Rattle.git_msg.proofs.HeadWords.{one_value, one_word, written_is}
use Rattle.git_msg.proofs.WrittenNames.{length-hex_of}
use Rattle.git_laws.specs.AnnouncedAnswers.{packets_of}

-- ---- an object name that is read has the reader's format

abbrev IsSomeName : Format → List ℕ → Type 0
IsSomeName format name = (id : ObjectName) × IsObjectName format name id

name_fits : (written read : Format) (id : ObjectName) → IsNameIn written id → IsSomeName read (hex_of id) → IsNameIn read id
name_fits Sha1 Sha1 id h (other, is) = h
name_fits Sha256 Sha256 id h (other, is) = h
name_fits Sha1 Sha256 id h (other, is) = absurd (omega (arith, length-hex_of Sha1 id h, is.count))
name_fits Sha256 Sha1 id h (other, is) = absurd (omega (arith, length-hex_of Sha256 id h, is.count))

-- so the value of an argument stays allowed where it is read after the same word
stays : (written read : Format) (arg other : Arg) → word_of arg ≡ word_of other → IsInRange written arg → HasArgument read (written_text arg) other
    → IsInRange read arg
stays written read (with_id word id) (with_id read_word other) same fits conveys =
    let words : word ≡ read_word = cc in
    let spelled : written_text (with_id word id) ≡ line_of (of_object word) conveys.value =
    subst (λ (w : ObjectWord). written_text (with_id word id) ≡ line_of (of_object w) conveys.value) (sym words) conveys.spelled in
    let value : conveys.value ≡ hex_of id = one_value (of_object word) (written_text (with_id word id)) conveys.value (hex_of id) tt spelled refl in
    name_fits written read id fits (other, rw value at conveys.states)
stays written read (with_id word id) other same fits conveys = absurd (cc)
stays written read arg other same fits conveys = fits

-- and an argument that is read is allowed in a request of that format
in_range : (written read : Format) (arg other : Arg) → IsInRange written arg → HasArgument read (written_text arg) other → IsInRange read arg
in_range written read arg other value conveys =
    stays written read arg other (one_word (written_text arg) (word_of arg) (word_of other) (written_value arg) conveys.value (written_is arg) conveys.spelled)
    value conveys

-- ---- the lines of a request

-- the packets of arguments, after the delimiter
abbrev pub argument_packets : List Arg → List Pkt
argument_packets args = map argument_line args

delimiter_line : (part : Bool) (offer : Offer) (limit : ℕ) (before : List Line) (line : Line) → IsLineIn part offer limit before delim line
    → is_delimiter line ≡ true
delimiter_line false offer limit before delimiter h = refl
delimiter_line part offer limit before line h = absurd h

-- a server option is allowed in a request of any format
option_in_range : (written read : Format) (arg : Arg) → is_option arg ≡ true → IsInRange written arg → IsInRange read arg
option_in_range written read (with_text TextWord.ServerOption text) is fits = fits
option_in_range written read arg is fits = absurd (cc)

pub options_fit_in : (command : Command) (written read : Format) (args : List Arg) → All (λ arg. is_option arg ≡ true) args
    → All (IsValue command written) args → All (IsValue command read) args
options_fit_in command written read [] are values = All-nil (IsValue command read)
options_fit_in command written read (arg ∷ args) are values =
    let value = All-head (IsValue command written) arg args values in
    All-cons (IsValue command read) arg args (value.0, option_in_range written read arg (All-head (λ a. is_option a ≡ true) arg args are) value.1)
    (options_fit_in command written read args (All-tail (λ a. is_option a ≡ true) arg args are) (All-tail (IsValue command written) arg args values))

-- each argument that is read after the delimiter is allowed there
arguments_behind : (offer : Offer) (limit : ℕ) (command : Command) (format : Format) (args : List Arg) (before : List Line) (gs : List Given)
    (lines : List Line) → has_delimiter before ≡ true → AreLines offer limit before gs lines → packets_of gs ≡ argument_packets args
    → HaveNoOption args → All (IsValue command format) args → All (IsValue command offer.format) args
arguments_behind offer limit command format [] before gs lines behind taken e none values = All-nil (IsValue command offer.format)
arguments_behind offer limit command format (arg ∷ args) before [] lines behind taken e none values = absurd (cc)
arguments_behind offer limit command format (arg ∷ args) before (g ∷ gs) [] behind taken e none values = absurd taken
arguments_behind offer limit command format (arg ∷ args) before (g ∷ gs) (line ∷ lines) behind (is, taken) e none values =
    let bytes = written_text arg ++ 10 ∷ [] in
    let own = ends_with_line_feed arg (All-head (λ a. is_option a ≡ false) arg args none) in
    let head : g.packet ≡ argument_line arg = cc in
    let first : g.packet ≡ payload bytes = head ∙ own in
    let rest : packets_of gs ≡ argument_packets args = cc in
    let value = All-head (IsValue command format) arg args values in
    let read = payload_argument offer limit before bytes line (rw (first, behind) at is) in
    let conveys : HasArgument offer.format (written_text arg) read.0 = rw (text_of-line_end (written_text arg)) at read.2.reads.is_argument.1 in
    All-cons (IsValue command offer.format) arg args (value.0, in_range format offer.format arg read.0 value.1 conveys)
    (arguments_behind offer limit command format args (before ++ line ∷ []) gs lines
    (delimiter_snoc before line ∙ or_right (is_delimiter line) (has_delimiter before) behind) taken rest
    (All-tail (λ a. is_option a ≡ false) arg args none) (All-tail (IsValue command format) arg args values))

-- so is each argument of a whole request
pub arguments_fit_in : (offer : Offer) (limit : ℕ) (command : Command) (format : Format) (args : List Arg) (front : List Pkt) (before : List Line)
    (gs : List Given) (lines : List Line) → AreLines offer limit before gs lines → packets_of gs ≡ front ++ delim ∷ argument_packets args
    → HaveNoOption args → All (IsValue command format) args → All (IsValue command offer.format) args
arguments_fit_in offer limit command format args [] before [] lines taken e none values = absurd (cc)
arguments_fit_in offer limit command format args (p ∷ front) before [] lines taken e none values = absurd (cc)
arguments_fit_in offer limit command format args front before (g ∷ gs) [] taken e none values = absurd taken
arguments_fit_in offer limit command format args [] before (g ∷ gs) (line ∷ lines) (is, taken) e none values =
    let first : g.packet ≡ delim = cc in
    let rest : packets_of gs ≡ argument_packets args = cc in
    let ends = delimiter_line (has_delimiter before) offer limit before line (rw first at is) in
    arguments_behind offer limit command format args (before ++ line ∷ []) gs lines
    (delimiter_snoc before line ∙ or_left (is_delimiter line) (has_delimiter before) ends) taken rest none values
arguments_fit_in offer limit command format args (p ∷ front) before (g ∷ gs) (line ∷ lines) (is, taken) e none values =
    let rest : packets_of gs ≡ front ++ delim ∷ argument_packets args = cc in
    arguments_fit_in offer limit command format args front (before ++ line ∷ []) gs lines taken rest none values
