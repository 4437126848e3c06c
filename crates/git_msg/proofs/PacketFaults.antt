-- The errors with which no packet of a request is refused.
use Rattle.std.proofs.Common.{◌≡◌, ◌≢◌, ℕ, ◌∙◌, Bool, true, false, Option, List, [], ◌∷◌, ◌++◌, subst, sym, inl, inr, rules}
use Rattle.git_pkt.specs.Packets.{Pkt, flush, delim, resp_end, payload, text_of}
use Rattle.git_pkt.specs.Splits.{Given}
use Rattle.git_pkt.specs.declared.fault.Fault.{Fault}
use Rattle.git_pkt.specs.declared.fault.Kind.{Kind}
use Rattle.git_pkt.specs.declared.fault.Kind.TheVariants.{NotOurs, OutOfMemory, PackSource, StreamTooLong, TooMuchKept, Truncated}
use Rattle.git_msg.specs.declared.offers.Offer.{Offer}
use Rattle.git_msg.specs.declared.arguments.Command.{Command}
use Rattle.git_msg.specs.declared.capability_key.Key.{Key}
use Rattle.git_msg.specs.declared.capability_key.Key.TheVariants.{CommandKey, AgentKey, ServerOptionKey}
use Rattle.git_msg.specs.declared.words.Word.TheVariants.{Flag as of_flag, Text as of_text}
use Rattle.git_msg.specs.declared.words.TextWord.{TextWord}
use Rattle.git_msg.specs.Arguments.{refusal_of, IsArgumentFault}
use Rattle.git_msg.specs.declared.words.Word.{Word}
use Rattle.git_msg.specs.Asked.{Asked, ls_refs, fetch, object_info}
use Rattle.git_msg.specs.Checks.{Check, Refuses}
use Rattle.git_msg.specs.Lines.{Line, argument_checks, capability_checks, commands_of, end_checks, flush_checks_in, has_format, is_none, kept_in}
use Rattle.git_msg.specs.Lines.{key_checks, noting_checks, part_checks, limit_check, text_checks, HasFaultIn}
use Rattle.git_msg.specs.Requests.{IsAnnounced}

-- errors that no packet has by itself: those of the limit, of memory, of the stream, of a repository or of the source of a pack
abbrev pub NotByItself : Kind → Type 0
NotByItself TooMuchKept = Unit {0}
NotByItself OutOfMemory = Unit {0}
NotByItself StreamTooLong = Unit {0}
NotByItself Truncated = Unit {0}
NotByItself NotOurs = Unit {0}
NotByItself PackSource = Unit {0}
NotByItself _ = ⊥

-- errors that no packet has for the limit or for lack of memory either
abbrev pub NotOfPackets : Kind → Type 0
NotOfPackets TooMuchKept = ⊥
NotOfPackets OutOfMemory = ⊥
NotOfPackets kind = NotByItself kind

not_by_itself : (kind : Kind) → NotOfPackets kind → NotByItself kind
not_by_itself TooMuchKept strange = tt
not_by_itself OutOfMemory strange = tt
not_by_itself kind strange = strange

-- a refused value has an error of packets
by_itself : (word : Word) → NotByItself (refusal_of word) → ⊥
by_itself (of_flag flag) h = h
by_itself (of_text TextWord.WantRef) h = h
by_itself word h = h

-- none of the checks refuses with this error
AllQuiet : Kind → List Check → Type 0
AllQuiet kind [] = Unit {0}
AllQuiet kind (c ∷ cs) = (c.refuses kind → ⊥) × AllQuiet kind cs

quiet : (kind : Kind) (cs : List Check) → AllQuiet kind cs → Refuses cs kind → ⊥
unfolding AllQuiet
quiet kind [] all r = r
quiet kind (c ∷ cs) all (inl r) = all.0 r
quiet kind (c ∷ cs) all (inr r) = quiet kind cs all.1 r.1

module _ (kind : Kind) (strange : NotByItself kind) where
  quiet_keys : (offer : Offer) (first : Bool) (key : Key) (value : Option (List ℕ)) → AllQuiet kind (key_checks offer first key value)
  unfolding AllQuiet
  quiet_keys offer first CommandKey value = search rules
  quiet_keys offer first AgentKey value = tt
  quiet_keys offer first ServerOptionKey value = ((λ r. subst NotByItself r.1 strange), ((λ r. subst NotByItself r.1 strange), tt))
  quiet_keys offer first key value = ((λ r. subst NotByItself r.1 strange), tt)

  quiet_capability : (offer : Offer) (first : Bool) (text : List ℕ) → AllQuiet kind (capability_checks offer first text)
  unfolding AllQuiet
  quiet_capability offer first text = search (rules, quiet, quiet_keys)

  quiet_part : (offer : Offer) (commands : List Command) (content : Bool) → AllQuiet kind (part_checks offer commands content)
  unfolding AllQuiet
  quiet_part offer commands content = ((λ r. subst NotByItself r.1 strange), ((λ r. subst NotByItself r.1 strange), tt))

  quiet_value : (c : Command) (offer : Offer) (text : List ℕ) → IsArgumentFault c offer text kind → ⊥
  quiet_value c offer text (inl (inl fault)) = subst NotByItself fault.1 strange
  quiet_value c offer text (inl (inr fault)) = by_itself fault.word (subst NotByItself fault.named strange)
  quiet_value c offer text (inr fault) = subst NotByItself fault.1 strange

  quiet_text : (c : Command) (offer : Offer) (text : List ℕ) → AllQuiet kind (text_checks c offer text)
  unfolding AllQuiet
  quiet_text c offer text = ((λ r. subst NotByItself r.1 strange), (quiet_value c offer text, tt))

  quiet_end : (asked : Asked) → AllQuiet kind (end_checks asked)
  unfolding AllQuiet
  quiet_end (ls_refs q) = tt
  quiet_end (fetch q) = ((λ r. subst NotByItself r.1 strange), ((λ r. subst NotByItself r.1 strange), tt))
  quiet_end (object_info q) = ((λ r. subst NotByItself r.1 strange), tt)

  quiet_flush : (part : Bool) (offer : Offer) (lines : List Line) → AllQuiet kind (flush_checks_in part offer lines)
  unfolding AllQuiet
  quiet_flush true offer lines = ((λ r. quiet kind (end_checks _) (quiet_end _) r.2), tt)
  quiet_flush false offer lines = search (rules, quiet, quiet_end)

otherwise : (name : Kind) (cs : List Check) → AllQuiet name cs → (kind : Kind) → Refuses cs kind → kind ≢ name
otherwise name cs all kind refuses is = quiet name cs all (subst (λ (k : Kind). Refuses cs k) is refuses)

-- a packet that is judged by itself is not refused for the limit
pub not_for_limit_by_text : (c : Command) (offer : Offer) (text : List ℕ) (kind : Kind) → Refuses (text_checks c offer text) kind → kind ≢ TooMuchKept
not_for_limit_by_text c offer text = otherwise TooMuchKept (text_checks c offer text) (quiet_text TooMuchKept tt c offer text)

pub not_for_limit_by_end : (asked : Asked) (kind : Kind) → Refuses (end_checks asked) kind → kind ≢ TooMuchKept
not_for_limit_by_end asked = otherwise TooMuchKept (end_checks asked) (quiet_end TooMuchKept tt asked)

-- nor for lack of memory
pub not_for_memory_by_capability : (offer : Offer) (first : Bool) (text : List ℕ) (kind : Kind)
    → Refuses (capability_checks offer first text) kind → kind ≢ OutOfMemory
not_for_memory_by_capability offer first text = otherwise OutOfMemory (capability_checks offer first text) (quiet_capability OutOfMemory tt offer first text)

module _ (kind : Kind) (strange : NotOfPackets kind) where
  itself : NotByItself kind
  itself = not_by_itself kind strange

  quiet_argument : (offer : Offer) (limit : ℕ) (c : Command) (kept : ℕ) (text : List ℕ) → AllQuiet kind (argument_checks offer limit c kept text)
  unfolding AllQuiet
  quiet_argument offer limit c kept text = search (rules, quiet_text, itself)

  quiet_behind : (cs : List Check) (c : Check) → AllQuiet kind cs → (c.refuses kind → ⊥) → AllQuiet kind (cs ++ c ∷ [])
  unfolding AllQuiet
  quiet_behind [] c h last = (last, tt)
  quiet_behind (first ∷ cs) c h last = (h.0, quiet_behind cs c h.1 last)

  quiet_noting : (offer : Offer) (limit : ℕ) (first : Bool) (kept : ℕ) (text : List ℕ) → AllQuiet kind (noting_checks offer limit first kept text)
  quiet_noting offer limit first kept text =
      quiet_behind (capability_checks offer first text) (limit_check offer limit first kept text) (quiet_capability kind itself offer first text)
      (λ r. subst NotOfPackets r.1 strange)

  no_such_fault : (part : Bool) (offer : Offer) (limit : ℕ) (before : List Line) (packet : Pkt) → HasFaultIn part offer limit before packet kind → ⊥
  no_such_fault false offer limit before (payload bytes) r =
      quiet kind (noting_checks offer limit (is_none (commands_of before)) (kept_in before) (text_of bytes)) (quiet_noting offer limit _ _ _) r
  no_such_fault false offer limit before delim r = quiet kind (part_checks offer (commands_of before) (has_format before)) (quiet_part kind itself offer _ _) r
  no_such_fault false offer limit before flush r = quiet kind (flush_checks_in false offer before) (quiet_flush kind itself false offer before) r.1
  no_such_fault false offer limit before resp_end r = subst NotOfPackets r strange
  no_such_fault true offer limit before (payload bytes) r = search (rules, quiet, quiet_argument)
  no_such_fault true offer limit before flush r = quiet kind (flush_checks_in true offer before) (quiet_flush kind itself true offer before) r
  no_such_fault true offer limit before delim r = subst NotOfPackets r strange
  no_such_fault true offer limit before resp_end r = subst NotOfPackets r strange

  -- packets have no error of this kind
  pub announced_of_packets : (offer : Offer) (limit : ℕ) (packets : List Given) (fault : Fault) → IsAnnounced offer limit packets fault → fault.kind ≡ kind → ⊥
  announced_of_packets offer limit packets fault (inl h) is = search (rules, no_such_fault)
  announced_of_packets offer limit packets fault (inr w) is = subst NotOfPackets (sym is ∙ w.name) strange
