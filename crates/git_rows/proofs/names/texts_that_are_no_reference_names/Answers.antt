use Rattle.std.proofs.Common.{codes, refl, arith}
use Rattle.git_rows.proofs.NamesByComputing.{ends, occurs}
use Rattle.git_rows.proofs.names.texts_that_are_no_reference_names.Goals as goal

pub returns-clause-empty_component : goal.returns-clause-empty_component
returns-clause-empty_component c = λ h. h.no_empty_component (4, occurs (codes "refs//x") (codes "//") 4 refl)

pub returns-clause-component_from_dot : goal.returns-clause-component_from_dot
returns-clause-component_from_dot c = λ h. h.no_component_from_dot (4, occurs (codes "refs/.x") (codes "/.") 4 refl)

pub returns-clause-component_to_lock : goal.returns-clause-component_to_lock
returns-clause-component_to_lock c = λ h. h.no_component_to_lock (6, occurs (codes "refs/a.lock/b") (codes ".lock/") 6 refl)

pub returns-clause-two_dots : goal.returns-clause-two_dots
returns-clause-two_dots c = λ h. h.no_two_dots (6, occurs (codes "refs/a..b") (codes "..") 6 refl)

pub returns-clause-at_brace : goal.returns-clause-at_brace
returns-clause-at_brace c = λ h. h.no_at_brace (6, occurs (codes "refs/a@{b") (codes "@{") 6 refl)

pub returns-clause-slash_at_end : goal.returns-clause-slash_at_end
returns-clause-slash_at_end c = λ h. h.no_slash_at_end (ends (codes "refs/x/") (codes "/") (omega arith) refl)

pub returns-clause-dot_at_end : goal.returns-clause-dot_at_end
returns-clause-dot_at_end c = λ h. h.no_dot_at_end (ends (codes "refs/x.") (codes ".") (omega arith) refl)

pub returns-clause-lock_at_end : goal.returns-clause-lock_at_end
returns-clause-lock_at_end c = λ h. h.no_lock_at_end (ends (codes "refs/a.lock") (codes ".lock") (omega arith) refl)

pub returns-clause-space : goal.returns-clause-space
returns-clause-space c = λ h. h.no_space 6 (omega arith) refl

pub returns-clause-asterisk : goal.returns-clause-asterisk
returns-clause-asterisk c = λ h. h.no_asterisk 6 (omega arith) refl

pub returns-clause-colon : goal.returns-clause-colon
returns-clause-colon c = λ h. h.no_colon 6 (omega arith) refl

pub returns-clause-question_mark : goal.returns-clause-question_mark
returns-clause-question_mark c = λ h. h.no_question_mark 6 (omega arith) refl

pub returns-clause-open_bracket : goal.returns-clause-open_bracket
returns-clause-open_bracket c = λ h. h.no_open_bracket 6 (omega arith) refl

pub returns-clause-backslash : goal.returns-clause-backslash
returns-clause-backslash c = λ h. h.no_backslash 6 (omega arith) refl

pub returns-clause-caret : goal.returns-clause-caret
returns-clause-caret c = λ h. h.no_caret 6 (omega arith) refl

pub returns-clause-tilde : goal.returns-clause-tilde
returns-clause-tilde c = λ h. h.no_tilde 6 (omega arith) refl

pub returns-clause-delete : goal.returns-clause-delete
returns-clause-delete c = λ h. h.no_delete 6 (omega arith) refl
