use Rattle.std.proofs.Common.{[], Some, None, codes, refl, arith, inl, inr}
use Rattle.git_msg.specs.Lines.{key_by}
use Rattle.git_msg.proofs.Keys.{no_key}
use Rattle.git_rows.proofs.RequestLines.{unknown_command}
use Rattle.git_rows.proofs.TextsByComputing.{differ, no_error_by, some_same}
use Rattle.git_rows.proofs.requests.packets_refused.Goals as goal

pub returns-clause-unknown_command : goal.returns-clause-unknown_command
returns-clause-unknown_command c = unknown_command 0

pub returns-clause-two_commands : goal.returns-clause-two_commands
returns-clause-two_commands c = inr (
  no_error_by (codes "command=ls-refs") refl,
  inr (
    (codes "command", Some (codes "ls-refs"), (refl, refl, refl)),
    inl (
      key_by (codes "command"),
      Some (codes "ls-refs"),
      record { word = codes "command"; is_capability = (refl, refl, refl); is_word = refl },
      inl (refl, refl),
    ),
  ),
)

pub returns-clause-no_capability : goal.returns-clause-no_capability
returns-clause-no_capability c = inr (
  no_error_by (codes "=") refl,
  inl (no_key (codes "=") [] (Some []) (record { spelled = refl; first = λ k lt. omega arith }) refl, refl),
)

pub returns-clause-not_offered : goal.returns-clause-not_offered
returns-clause-not_offered c = inr (
  no_error_by (codes "x-later") refl,
  inr (
    (codes "x-later", None, (refl, refl)),
    inl (
      key_by (codes "x-later"),
      None,
      record {
        word = codes "x-later";
        is_capability = (refl, refl);
        is_word = (
          differ (codes "x-later") (codes "command") refl,
          (
            differ (codes "x-later") (codes "agent") refl,
            (differ (codes "x-later") (codes "server-option") refl, (differ (codes "x-later") (codes "object-format") refl, tt)),
          ),
        );
      },
      inl (tt, refl),
    ),
  ),
)

pub returns-clause-another_format : goal.returns-clause-another_format
returns-clause-another_format c = inr (
  no_error_by (codes "object-format=sha256") refl,
  inr (
    (codes "object-format", Some (codes "sha256"), (refl, refl, refl)),
    inl (
      key_by (codes "object-format"),
      Some (codes "sha256"),
      record { word = codes "object-format"; is_capability = (refl, refl, refl); is_word = refl },
      inl (λ e. differ (codes "sha256") (codes "sha1") refl (some_same _ _ e), refl),
    ),
  ),
)
