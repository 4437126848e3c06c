-- A request that keeps one more argument.
use Rattle.std.proofs.Common.{arith, ◌≡◌, ℕ, ◌≤◌, Bool, true, List, [], ◌∷◌, ◌++◌, ◌-◌, false, cond, take, rules}
use Rattle.std.proofs.Common.{ap, length, ◌∙◌}
use Rattle.std.proofs.lemmas.List.{append-nil, length-take}
use Rattle.git_pkt.specs.Packets.{text_of}
use Rattle.git_names.specs.declared.object_format.Format.{Format}
use Rattle.git_msg.specs.declared.requests.Request.{Request}
use Rattle.git_msg.specs.declared.reader.RequestReader.{RequestReader}
use Rattle.git_msg.specs.Arguments.{Arg, alone, with_id, with_text, with_number, word_of, HasArgument, StatesValue, written_text, written_value}
use Rattle.git_msg.proofs.KeptBytes.{small_number}
use Rattle.git_msg.specs.Machine.HeldRequest.{asked_of, command_of, IsBounded, Keeps}
use Rattle.git_msg.specs.Asked.{command_asked}
use Rattle.git_msg.specs.Lines.{Line, argument}
use Rattle.git_msg.specs.Machine.RequestReader.{InArguments}
use Rattle.git_msg.proofs.ArgumentsInOrder.{asked_snoc, same_command}
use Rattle.git_msg.proofs.DigitValues.{decimal_is_shortest}
use Rattle.git_msg.proofs.HeadWords.{line_grows, written_is}
use Rattle.git_msg.proofs.WrittenNames.{length-hex_of, named_in}
use Rattle.git_msg.proofs.LineLists.{commands_snoc, kept_arguments_snoc, delimiter_snoc, kept_snoc}

-- one more argument in the argument part
pub one_more : {A : Type 0} (lines : List Line) (arg : Arg) (long : ℕ) (r : RequestReader A) (q : Request A) (bounded : IsBounded r.offer q)
    → InArguments lines r → Keeps r.request arg long q → InArguments (lines ++ argument arg long ∷ []) (record r { request = q; bounded = bounded })
one_more lines arg long r q bounded h k =
    let command : command_of q ≡ command_of r.request = ap command_asked k.asked ∙ same_command (asked_of r.request) arg in
    search (rules, command, delimiter_snoc, commands_snoc, append-nil, asked_snoc, kept_arguments_snoc, kept_snoc)

-- an argument's text is no shorter than its written form
as_stated : (format : Format) (value : List ℕ) (arg : Arg) → StatesValue format value arg → length (written_value arg) ≤ length value
as_stated format value (alone flag) h = omega arith
as_stated format value (with_id word id) h = omega (arith, length-hex_of format id (named_in format value id h), h.count)
as_stated format value (with_text word text) h = let e = ap length h.0 in omega arith
as_stated format value (with_number word number) h =
    decimal_is_shortest number value (small_number word number h.in_range) h.is_number

pub as_written : (format : Format) (text : List ℕ) (arg : Arg) → HasArgument format text arg → length (written_text arg) ≤ length text
as_written format text arg h =
    let own = ap length (written_is arg) in
    let line = ap length h.spelled in
    omega (arith, own, line, line_grows (word_of arg) (written_value arg) h.value (as_stated format h.value arg h.states))

-- the text of a packet is no longer than its payload
chosen_fits : (b : Bool) (n : ℕ) (bytes : List ℕ) → length (cond b (take n bytes) bytes) ≤ length bytes
chosen_fits true n bytes = omega (arith, length-take n bytes)
chosen_fits false n bytes = omega arith

pub text_fits : (bytes : List ℕ) → length (text_of bytes) ≤ length bytes
text_fits bytes = chosen_fits _ (length bytes - 1) bytes
