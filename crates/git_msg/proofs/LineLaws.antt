-- A packet is one line or has one error, never both.
use Rattle.std.proofs.Common.{arith, ◌≡◌, ℕ, ◌+◌, ◌<◌, ◌≤◌, Bool, true, false, Option, None, Some, List, [], ◌∷◌, ◌++◌, length}
use Rattle.std.proofs.Common.{refl, ap, sym, ◌∙◌, subst, inl, inr, rules}
use Rattle.std.proofs.lemmas.List.{same_from_push}
use Rattle.git_names.specs.declared.object_format.Format.{Format}
use Rattle.git_names.specs.declared.object_format.Format.TheVariants.{Sha1, Sha256}
use Rattle.git_pkt.specs.Packets.{Pkt, flush, delim, resp_end, payload, text_of}
use Rattle.git_pkt.specs.Splits.{Given}
use Rattle.git_pkt.specs.declared.fault.Kind.{Kind}
use Rattle.git_pkt.specs.declared.fault.Kind.TheVariants.{NotAdvertised, TooMuchKept, RemoteError, NoSize}
use Rattle.git_msg.specs.declared.offers.Offer.{Offer}
use Rattle.git_msg.specs.declared.arguments.Command.{Command}
use Rattle.git_msg.specs.declared.arguments.Command.TheVariants.{LsRefs, Fetch, ObjectInfo}
use Rattle.git_msg.specs.declared.capability_key.Key.{Key}
use Rattle.git_msg.specs.declared.capability_key.Key.TheVariants.{CommandKey, AgentKey, ServerOptionKey, ObjectFormatKey, OtherKey}
use Rattle.git_msg.specs.Texts.{IsErrorText}
use Rattle.git_msg.specs.Advertisement.{takes_command}
use Rattle.git_msg.specs.Arguments.{Arg, ReadsAs, name_of}
use Rattle.git_msg.specs.declared.flags.Flag.{Flag}
use Rattle.git_msg.specs.Asked.{Asked, ls_refs, fetch, object_info, flag_among}
use Rattle.git_msg.specs.Checks.{Check, Refuses, Passes}
use Rattle.git_msg.specs.Lines.{Line, command, unkept, server_option, object_format, delimiter, argument, argument_in, is_none, commands_of, kept_in}
use Rattle.git_msg.specs.Lines.{has_delimiter, HasKey, FitsLimit, ExceedsLimit, IsNoOption, IsOption, NamesTaken, key_checks, by_key}
use Rattle.git_msg.specs.Lines.{capability_checks, noting_checks, limit_check}
use Rattle.git_msg.specs.Lines.{IsLineOf, IsCapabilityLine, IsFormatMeant, IsOtherFormatMeant, part_checks, argument_checks, IsArgumentLine}
use Rattle.git_msg.specs.Lines.{IsArgumentText, IsArgumentRefused, end_checks, at_end, flush_checks_in, IsLine, IsLineIn, HasFault, HasFaultIn}
use Rattle.git_msg.specs.Requests.{AreLines, Asks, IsLineAfter}
use Rattle.git_msg.proofs.CheckLaws.{IsFair, AllFair, passes_or_refuses, one_name, fair_check}
use Rattle.git_msg.proofs.ItemLaws.{one_list}
use Rattle.git_msg.proofs.Keys.{one_capability}
use Rattle.git_msg.proofs.Rows.{one_key, one_argument, argument_or_fault, one_argument_fault}

-- a text has one key
same_key : (text : List ℕ) (a b : Key) (v w : Option (List ℕ)) → HasKey text a v → HasKey text b w → (a ≡ b) × (v ≡ w)
same_key text a b v w h k = search (rules, one_capability, one_key)

true_false : (b : Bool) → b ≡ true → b ≡ false → ⊥
true_false b h k = cc

option_or_none : (value : Option (List ℕ)) → IsOption value → IsNoOption value → ⊥
option_or_none None h k = k
option_or_none (Some option) h k = omega (arith, h, k)

fair_keys : (offer : Offer) (first : Bool) (key : Key) (value : Option (List ℕ)) → AllFair (key_checks offer first key value)
unfolding AllFair
fair_keys offer first CommandKey value = search (rules, fair_check, true_false)
fair_keys offer first AgentKey value = tt
fair_keys offer first ServerOptionKey value = search (rules, fair_check, true_false, option_or_none)
fair_keys offer first ObjectFormatKey value = search (rules, fair_check)
fair_keys offer first OtherKey value = (fair_check ⊥ (Unit {0}) NotAdvertised (λ p q. p), tt)

fair_by_key : (offer : Offer) (first : Bool) (text : List ℕ) → IsFair (by_key offer first text)
fair_by_key offer first text = record {
  apart = λ kind p r.
      let same = same_key text p.0 r.0 p.1 r.1 p.2 r.2 in
      let there : Passes (key_checks offer first r.0 r.1) =
      subst (λ (v : Option (List ℕ)). Passes (key_checks offer first r.0 v)) same.1
      (subst (λ (k : Key). Passes (key_checks offer first k p.1)) same.0 p.3) in
      passes_or_refuses (key_checks offer first r.0 r.1) (fair_keys offer first r.0 r.1) kind there r.3;
  single = λ kind other r s.
      let same = same_key text r.0 s.0 r.1 s.1 r.2 s.2 in
      let there : Refuses (key_checks offer first s.0 s.1) kind =
      subst (λ (v : Option (List ℕ)). Refuses (key_checks offer first s.0 v) kind) same.1
      (subst (λ (k : Key). Refuses (key_checks offer first k r.1) kind) same.0 r.3) in
      one_name (key_checks offer first s.0 s.1) (fair_keys offer first s.0 s.1) kind other there s.3;
}

fair_capability : (offer : Offer) (first : Bool) (text : List ℕ) → AllFair (capability_checks offer first text)
unfolding AllFair
fair_capability offer first text = search (rules, fair_check, fair_by_key)

format_or_other : (format : Format) (content : Bool) → IsFormatMeant format content → IsOtherFormatMeant format content → ⊥
format_or_other Sha1 content p q = q
format_or_other Sha256 content p q = true_false content p q

fair_part : (offer : Offer) (commands : List Command) (content : Bool) → AllFair (part_checks offer commands content)
unfolding AllFair
fair_part offer commands content = search (rules, fair_check, true_false, format_or_other)

fair_argument : (offer : Offer) (limit : ℕ) (c : Command) (kept : ℕ) (text : List ℕ) → AllFair (argument_checks offer limit c kept text)
unfolding AllFair
fair_argument offer limit c kept text = (
  fair_check (¬ IsErrorText text) (IsErrorText text) RemoteError (λ p q. p q),
  (
    record {
      apart = λ kind p r. argument_or_fault c offer text p.0 kind p.1 r;
      single = λ kind other r s. one_argument_fault c offer text kind other r s;
    },
    (fair_check (kept + length text ≤ limit) (limit < kept + length text) TooMuchKept (λ p q. omega arith), tt),
  ),
)

same_command : (cs : List Command) (c d : Command) → cs ≡ c ∷ [] → cs ≡ d ∷ [] → c ≡ d
same_command cs c d h k = cc

fair_end_checks : (asked : Asked) → AllFair (end_checks asked)
unfolding AllFair
fair_end_checks (ls_refs q) = tt
fair_end_checks (fetch q) = search (rules, fair_check, true_false)
fair_end_checks (object_info q) =
    (fair_check (flag_among q Flag.Size ≡ true) (flag_among q Flag.Size ≡ false) NoSize (λ p r. true_false (flag_among q Flag.Size) p r), tt)

fair_at_end : (lines : List Line) → IsFair (at_end lines)
fair_at_end lines = search (rules, same_command, passes_or_refuses, fair_end_checks, one_name)

fair_flush : (part : Bool) (offer : Offer) (lines : List Line) → AllFair (flush_checks_in part offer lines)
unfolding AllFair
fair_flush true offer lines = (fair_at_end lines, tt)
fair_flush false offer lines = search (rules, fair_part, fair_at_end)

-- a name is that of one command
one_command : (c d : Command) → name_of c ≡ name_of d → c ≡ d
one_command LsRefs LsRefs h = refl
one_command Fetch Fetch h = refl
one_command ObjectInfo ObjectInfo h = refl
one_command c d h = absurd (let long = ap length h in omega arith)

named : (value : Option (List ℕ)) (c d : Command) → value ≡ Some (name_of c) → value ≡ Some (name_of d) → c ≡ d
named value c d h k = one_command c d (let same = sym h ∙ k in cc)

-- so if that command is in the offer, the value names no other
pub names_taken : (offer : Offer) (value : Option (List ℕ)) (c : Command)
    → value ≡ Some (name_of c) → takes_command offer c ≡ true → NamesTaken offer value
names_taken offer value c is taken d other = subst (λ (x : Command). takes_command offer x ≡ true) (named value c d is other) taken

-- a capability is one line
one_line_of : (key : Key) (value : Option (List ℕ)) (line other : Line) → IsLineOf key value line → IsLineOf key value other → line ≡ other
one_line_of CommandKey value (command c) (command d) h k = ap command (named value c d h k)
one_line_of AgentKey value unkept unkept h k = refl
one_line_of ServerOptionKey None unkept unkept h k = refl
one_line_of ServerOptionKey (Some value) (server_option a) (server_option b) h k = ap server_option (sym h ∙ k)
one_line_of ObjectFormatKey value object_format object_format h k = refl
one_line_of key value line other h k = absurd assumption

one_capability_line : (offer : Offer) (first : Bool) (text : List ℕ) (line other : Line)
    → IsCapabilityLine offer first text line → IsCapabilityLine offer first text other → line ≡ other
one_capability_line offer first text line other h k = search (rules, same_key, one_line_of)

-- a capability line passes all its checks
pub line_passes : (offer : Offer) (first : Bool) (text : List ℕ) (line : Line)
    → IsCapabilityLine offer first text line → Passes (capability_checks offer first text)
line_passes offer first text line h = (h.no_error, ((h.has_key.word, h.value, h.has_key.is_capability), ((h.key, h.value, h.has_key, h.allowed), tt)))

argument_passes : (offer : Offer) (limit : ℕ) (before : List Line) (text : List ℕ) (arg : Arg) (long : ℕ)
    → (h : IsArgumentLine offer limit before text arg long) → Passes (argument_checks offer limit h.is_text.of (kept_in before) text)
argument_passes offer limit before text arg long h = search rules

argument_line_or_fault : (offer : Offer) (limit : ℕ) (before : List Line) (text : List ℕ) (arg : Arg) (long : ℕ) (kind : Kind)
    → IsArgumentLine offer limit before text arg long → IsArgumentRefused offer limit before text kind → ⊥
argument_line_or_fault offer limit before text arg long kind h r =
    let same = same_command (commands_of before) h.is_text.of r.of h.is_text.asked r.asked in
    passes_or_refuses (argument_checks offer limit r.of (kept_in before) text) (fair_argument offer limit r.of (kept_in before) text) kind
    (subst (λ (c : Command). Passes (argument_checks offer limit c (kept_in before) text)) same
    (argument_passes offer limit before text arg long h)) r.refuses

-- a line fits within the limit or does not, never both
fits_or_exceeds : (limit kept : ℕ) (line : Line) → FitsLimit limit kept line → ExceedsLimit limit kept line → ⊥
fits_or_exceeds limit kept (server_option option) h k = omega (arith, h, k)
fits_or_exceeds limit kept line h k = k

-- checks and one more after them
fair_behind : (cs : List Check) (c : Check) → AllFair cs → IsFair c → AllFair (cs ++ c ∷ [])
unfolding AllFair
fair_behind [] c h last = (last, tt)
fair_behind (first ∷ cs) c h last = (h.0, fair_behind cs c h.1 last)

passes_behind : (cs : List Check) (c : Check) → Passes cs → c.passes → Passes (cs ++ c ∷ [])
passes_behind [] c h last = (last, tt)
passes_behind (first ∷ cs) c h last = (h.0, passes_behind cs c h.1 last)

fair_noting : (offer : Offer) (limit : ℕ) (first : Bool) (kept : ℕ) (text : List ℕ) → AllFair (noting_checks offer limit first kept text)
fair_noting offer limit first kept text =
    fair_behind (capability_checks offer first text) (limit_check offer limit first kept text) (fair_capability offer first text)
    (fair_check ((line : Line) → IsCapabilityLine offer first text line → FitsLimit limit kept line)
    ((line : Line) × IsCapabilityLine offer first text line × ExceedsLimit limit kept line) TooMuchKept
    (λ p q. fits_or_exceeds limit kept q.0 (p q.0 q.1) q.2))

-- a line that fits within the limit passes that check too
noted_passes : (offer : Offer) (limit : ℕ) (first : Bool) (kept : ℕ) (text : List ℕ) (line : Line)
    → IsCapabilityLine offer first text line → FitsLimit limit kept line → Passes (noting_checks offer limit first kept text)
noted_passes offer limit first kept text line h in_limit =
    passes_behind (capability_checks offer first text) (limit_check offer limit first kept text) (line_passes offer first text line h)
    (λ other k. subst (FitsLimit limit kept) (one_capability_line offer first text line other h k) in_limit)

noted_line_or_fault : (offer : Offer) (limit : ℕ) (first : Bool) (kept : ℕ) (text : List ℕ) (line : Line) (kind : Kind)
    → IsCapabilityLine offer first text line → FitsLimit limit kept line → Refuses (noting_checks offer limit first kept text) kind → ⊥
noted_line_or_fault offer limit first kept text line kind h in_limit r =
    passes_or_refuses (noting_checks offer limit first kept text) (fair_noting offer limit first kept text) kind
    (noted_passes offer limit first kept text line h in_limit) r

-- the same in either part
line_or_fault_in : (part : Bool) (offer : Offer) (limit : ℕ) (before : List Line) (packet : Pkt) (line : Line) (kind : Kind)
    → IsLineIn part offer limit before packet line → HasFaultIn part offer limit before packet kind → ⊥
line_or_fault_in false offer limit before (payload bytes) line kind h r =
    noted_line_or_fault offer limit (is_none (commands_of before)) (kept_in before) (text_of bytes) line kind h.0 h.1 r
line_or_fault_in false offer limit before delim delimiter kind h r = search (rules, passes_or_refuses, fair_part)
line_or_fault_in true offer limit before (payload bytes) (argument arg long) kind h r = search (rules, argument_line_or_fault)
line_or_fault_in part offer limit before packet line kind h r = absurd h

pub line_or_fault : (offer : Offer) (limit : ℕ) (before : List Line) (packet : Pkt) (line : Line) (kind : Kind)
    → IsLine offer limit before packet line → HasFault offer limit before packet kind → ⊥
line_or_fault offer limit before packet line kind h r = line_or_fault_in (has_delimiter before) offer limit before packet line kind h r

-- the line of an argument is a payload after the delimiter
pub record IsArgumentPayload (offer : Offer) (part : Bool) (before : List Line) (packet : Pkt) (arg : Arg) : Type 0 where
  pub behind : part ≡ true
  pub bytes : List ℕ
  pub data_packet : packet ≡ payload bytes
  pub is_text : IsArgumentText offer before (text_of bytes) arg

pub no_argument_of : (key : Key) (value : Option (List ℕ)) (arg : Arg) (long : ℕ) → IsLineOf key value (argument arg long) → ⊥
no_argument_of CommandKey value arg long h = h
no_argument_of ServerOptionKey None arg long h = h
no_argument_of ServerOptionKey (Some option) arg long h = h
no_argument_of key value arg long h = h

argument_payload_in : (part : Bool) (offer : Offer) (limit : ℕ) (before : List Line) (packet : Pkt) (line : Line) (arg : Arg)
    → IsLineIn part offer limit before packet line → argument_in line ≡ Some arg → IsArgumentPayload offer part before packet arg
argument_payload_in true offer limit before (payload bytes) (argument a long) arg h is =
    let same : a ≡ arg = cc in
    record { behind = refl; bytes = bytes; data_packet = refl; is_text = subst (IsArgumentText offer before (text_of bytes)) same h.is_text }
argument_payload_in false offer limit before (payload bytes) (argument a long) arg h is = absurd (no_argument_of h.0.key h.0.value a long h.0.line_is)
argument_payload_in part offer limit before packet (argument a long) arg h is = absurd h
argument_payload_in part offer limit before packet line arg h is = absurd (cc)

pub argument_payload : (offer : Offer) (limit : ℕ) (before : List Line) (packet : Pkt) (line : Line) (arg : Arg)
    → IsLine offer limit before packet line → argument_in line ≡ Some arg → IsArgumentPayload offer (has_delimiter before) before packet arg
argument_payload offer limit before packet line arg h is = argument_payload_in (has_delimiter before) offer limit before packet line arg h is

-- and each payload there is the line of an argument
pub payload_argument : (offer : Offer) (limit : ℕ) (before : List Line) (bytes : List ℕ) (line : Line) → IsLineIn true offer limit before (payload bytes) line
    → (arg : Arg) × (argument_in line ≡ Some arg) × IsArgumentText offer before (text_of bytes) arg
payload_argument offer limit before bytes (argument arg long) h = (arg, refl, h.is_text)
payload_argument offer limit before bytes line h = absurd h

-- a text is one argument
pub one_argument_text : (offer : Offer) (before : List Line) (text : List ℕ) (a b : Arg)
    → IsArgumentText offer before text a → IsArgumentText offer before text b → a ≡ b
one_argument_text offer before text a b h k =
    let same = same_command (commands_of before) h.of k.of h.asked k.asked in
    one_argument h.of offer.format text a b h.reads.is_argument (rw (← same) at k.reads.is_argument)

-- the text of an argument is refused only for the limit
pub refused_for_limit : (offer : Offer) (limit : ℕ) (before : List Line) (text : List ℕ) (arg : Arg) (kind : Kind)
    → IsArgumentText offer before text arg → IsArgumentRefused offer limit before text kind → kind ≡ TooMuchKept
refused_for_limit offer limit before text arg kind h r = by r.refuses
  where
    by : Refuses (argument_checks offer limit r.of (kept_in before) text) kind → kind ≡ TooMuchKept
    by (inl error) = absurd (h.no_error error.0)
    by (inr (no_error, inl fault)) =
        let c = same_command (commands_of before) h.of r.of h.asked r.asked in
        let there : ReadsAs r.of offer text arg = subst (λ (x : Command). ReadsAs x offer text arg) c h.reads in
        absurd (argument_or_fault r.of offer text arg kind there fault)
    by (inr (no_error, inr (reads, inl limited))) = limited.1
    by (inr (no_error, inr (reads, inr none))) = absurd none.1

one_argument_line : (offer : Offer) (limit : ℕ) (before : List Line) (text : List ℕ) (a b : Arg) (m n : ℕ)
    → IsArgumentLine offer limit before text a m → IsArgumentLine offer limit before text b n → argument a m ≡ argument b n
one_argument_line offer limit before text a b m n h k =
    let same = one_argument_text offer before text a b h.is_text k.is_text in
    let long : m ≡ n = h.long_is ∙ sym k.long_is in
    cc

one_line_in : (part : Bool) (offer : Offer) (limit : ℕ) (before : List Line) (packet : Pkt) (line other : Line)
    → IsLineIn part offer limit before packet line → IsLineIn part offer limit before packet other → line ≡ other
one_line_in false offer limit before (payload bytes) line other h k =
    one_capability_line offer (is_none (commands_of before)) (text_of bytes) line other h.0 k.0
one_line_in false offer limit before delim delimiter delimiter h k = refl
one_line_in true offer limit before (payload bytes) (argument a m) (argument b n) h k = one_argument_line offer limit before (text_of bytes) a b m n h k
one_line_in false offer limit before delim delimiter other h k = absurd k
one_line_in true offer limit before (payload bytes) (argument a m) other h k = absurd k
one_line_in part offer limit before packet line other h k = absurd h

pub one_line : (offer : Offer) (limit : ℕ) (before : List Line) (packet : Pkt) (line other : Line)
    → IsLine offer limit before packet line → IsLine offer limit before packet other → line ≡ other
one_line offer limit before packet line other h k = one_line_in (has_delimiter before) offer limit before packet line other h k

-- a packet has one error
one_fault_in : (part : Bool) (offer : Offer) (limit : ℕ) (before : List Line) (packet : Pkt) (kind other : Kind)
    → HasFaultIn part offer limit before packet kind → HasFaultIn part offer limit before packet other → kind ≡ other
one_fault_in false offer limit before (payload bytes) kind other h k =
    one_name (noting_checks offer limit (is_none (commands_of before)) (kept_in before) (text_of bytes))
    (fair_noting offer limit (is_none (commands_of before)) (kept_in before) (text_of bytes)) kind other h k
one_fault_in false offer limit before delim kind other h k = search (rules, one_name, fair_part)
one_fault_in false offer limit before flush kind other h k = one_name (flush_checks_in false offer before) (fair_flush false offer before) kind other h.1 k.1
one_fault_in false offer limit before resp_end kind other h k = h ∙ sym k
one_fault_in true offer limit before (payload bytes) kind other h k =
    let same = same_command (commands_of before) h.of k.of h.asked k.asked in
    one_name (argument_checks offer limit k.of (kept_in before) (text_of bytes)) (fair_argument offer limit k.of (kept_in before) (text_of bytes)) kind other
    (subst (λ (c : Command). Refuses (argument_checks offer limit c (kept_in before) (text_of bytes)) kind) same h.refuses) k.refuses
one_fault_in true offer limit before flush kind other h k = one_name (flush_checks_in true offer before) (fair_flush true offer before) kind other h k
one_fault_in true offer limit before delim kind other h k = h ∙ sym k
one_fault_in true offer limit before resp_end kind other h k = h ∙ sym k

pub one_fault : (offer : Offer) (limit : ℕ) (before : List Line) (packet : Pkt) (kind other : Kind)
    → HasFault offer limit before packet kind → HasFault offer limit before packet other → kind ≡ other
one_fault offer limit before packet kind other h k = one_fault_in (has_delimiter before) offer limit before packet kind other h k

pub one_line_after : (offer : Offer) (limit : ℕ) (before : List Line) (g : Given) (line other : Line)
    → IsLineAfter offer limit before g line → IsLineAfter offer limit before g other → line ≡ other
one_line_after offer limit before g = one_line offer limit before g.packet

-- packets are lines in one way
pub one_list_of_lines : (offer : Offer) (limit : ℕ) (before : List Line) (gs : List Given) (lines others : List Line)
    → AreLines offer limit before gs lines → AreLines offer limit before gs others → lines ≡ others
one_list_of_lines offer limit = one_list (IsLineAfter offer limit) (one_line_after offer limit)

-- equal lists have the same packets before the last one
pub fronts_same : (xs ys : List Given) (x y : Given) → xs ++ x ∷ [] ≡ ys ++ y ∷ [] → xs ≡ ys
fronts_same xs ys x y e = (same_from_push xs ys x y e).0

-- packets are one request
pub one_request : (offer : Offer) (limit : ℕ) (packets : List Given) (asked other : Asked) (kept other_kept : ℕ)
    → Asks offer limit packets asked kept → Asks offer limit packets other other_kept → (asked ≡ other) × (kept ≡ other_kept)
one_request offer limit packets asked other kept other_kept h k = search (rules, fronts_same, one_list_of_lines, same_command)

-- a flush that passes has no error
pub flush_or_fault_in : (part : Bool) (offer : Offer) (limit : ℕ) (before : List Line) (kind : Kind)
    → Passes (flush_checks_in part offer before) → HasFaultIn part offer limit before flush kind → ⊥
flush_or_fault_in false offer limit before kind p r = passes_or_refuses (flush_checks_in false offer before) (fair_flush false offer before) kind p r.1
flush_or_fault_in true offer limit before kind p r = passes_or_refuses (flush_checks_in true offer before) (fair_flush true offer before) kind p r
