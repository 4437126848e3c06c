-- An argument that a program adds passes the checks, or is refused with one error.
use Rattle.std.proofs.Common.{◌≡◌, sym, ◌∙◌, inl, inr, rules}
use Rattle.git_names.specs.declared.object_format.Format.{Format}
use Rattle.git_pkt.specs.declared.fault.Kind.{Kind}
use Rattle.git_msg.specs.declared.arguments.Command.{Command}
use Rattle.git_msg.specs.declared.requests.Request.{Request}
use Rattle.git_msg.specs.Arguments.{Arg, alone, with_id, with_text, with_number, HasWrongValue, IsInRange, IsValue, IsValueFault}
use Rattle.git_msg.specs.Checks.{Passes, Refuses}
use Rattle.git_msg.specs.Machine.HeldRequest.{add_checks}
use Rattle.git_msg.proofs.CheckLaws.{AllFair, passes_or_refuses, one_name, fair_check}
use Rattle.git_msg.proofs.Rows.{text_or_none}

pub range_apart : (format : Format) (arg : Arg) → IsInRange format arg → HasWrongValue format arg → ⊥
range_apart format (alone flag) h k = k
range_apart format (with_id word id) h k = k h.of_format
range_apart format (with_text word text) h k = text_or_none word text h k
range_apart format (with_number word number) h k = k h

value_apart : (c : Command) (format : Format) (arg : Arg) (kind : Kind) → IsValue c format arg → IsValueFault c format arg kind → ⊥
value_apart c format arg kind h (inl fault) = fault.0 h.0
value_apart c format arg kind h (inr fault) = range_apart format arg h.1 fault.1

value_single : (c : Command) (format : Format) (arg : Arg) (kind other : Kind) → IsValueFault c format arg kind → IsValueFault c format arg other
    → kind ≡ other
value_single c format arg kind other (inl h) (inl k) = h.1 ∙ sym k.1
value_single c format arg kind other (inl h) (inr k) = absurd (h.0 k.0)
value_single c format arg kind other (inr h) (inl k) = absurd (k.0 h.0)
value_single c format arg kind other (inr h) (inr k) = h.2 ∙ sym k.2

module _ {A : Type 0} where
  fair_adding : (request : Request A) (arg : Arg) → AllFair (add_checks request arg)
  unfolding AllFair
  fair_adding request arg = search (rules, value_apart, value_single, fair_check)

  pub added_or_refused : (request : Request A) (arg : Arg) (kind : Kind) → Passes (add_checks request arg) → Refuses (add_checks request arg) kind → ⊥
  added_or_refused request arg kind p r = passes_or_refuses (add_checks request arg) (fair_adding request arg) kind p r

  pub one_refusal : (request : Request A) (arg : Arg) (kind other : Kind) → Refuses (add_checks request arg) kind → Refuses (add_checks request arg) other
      → kind ≡ other
  one_refusal request arg kind other r s = one_name (add_checks request arg) (fair_adding request arg) kind other r s
