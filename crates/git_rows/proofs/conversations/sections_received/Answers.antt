use Rattle.std.proofs.Common.{◌≡◌, [], ◌∷◌, ◌++◌, codes, refl, inr}
use Rattle.git_msg.specs.WrittenRequest.{text_line}
use Rattle.git_client.specs.Conversation.{GivesAt}
use Rattle.git_client.specs.Events.{section}
use Rattle.git_client.specs.declared.sections.Section.TheVariants.{ShallowInfo, WantedRefs}
use Rattle.git_client.proofs.Determined.{one_gift}
use Rattle.git_rows.specs.WorkedConversations.{asked_fetch, offered_before, terms}
use Rattle.git_rows.specs.Worked.{all_a}
use Rattle.git_rows.proofs.NamesByComputing.{ref_by}
use Rattle.git_rows.proofs.ObjectNamesByComputing.{all_a_is_name}
use Rattle.git_rows.proofs.ReceivedPackets.{gives_at, refuses_at}
use Rattle.git_rows.proofs.TextsByComputing.{no_error_by}
use Rattle.git_rows.proofs.conversations.sections_received.Goals as goal

boundary_begins : GivesAt terms asked_fetch offered_before (text_line (codes "shallow-info")) (section ShallowInfo ∷ [])
boundary_begins = gives_at _ _ _ _ _ _ refl (record { no_error = no_error_by (codes "shallow-info") refl; conveys = (refl, refl) })

pub returns-clause-boundary_begins : goal.returns-clause-boundary_begins
returns-clause-boundary_begins c = boundary_begins

pub returns-clause-references_begin : goal.returns-clause-references_begin
returns-clause-references_begin c = gives_at _ _ _ _ _ _ refl (record { no_error = no_error_by (codes "wanted-refs") refl; conveys = (refl, refl) })

pub returns-clause-pack_begins_after_an_empty_section : goal.returns-clause-pack_begins_after_an_empty_section
returns-clause-pack_begins_after_an_empty_section c =
    gives_at _ _ _ _ _ _ refl (record { no_error = no_error_by (codes "packfile") refl; conveys = (refl, refl) })

pub returns-clause-not_another_section : goal.returns-clause-not_another_section
returns-clause-not_another_section c = λ h.
    let same : section WantedRefs ∷ [] ≡ section ShallowInfo ∷ [] =
    one_gift terms asked_fetch offered_before (text_line (codes "shallow-info")) (section WantedRefs ∷ []) (section ShallowInfo ∷ []) h boundary_begins in
    cc

pub returns-clause-not_unannounced : goal.returns-clause-not_unannounced
returns-clause-not_unannounced c = λ h.
    let same : [] ≡ section ShallowInfo ∷ [] =
    one_gift terms asked_fetch offered_before (text_line (codes "shallow-info")) [] (section ShallowInfo ∷ []) h boundary_begins in
    cc

pub returns-clause-cut_history : goal.returns-clause-cut_history
returns-clause-cut_history c = gives_at _ _ _ _ _ _ refl (record {
  no_error = no_error_by (codes "shallow " ++ all_a) refl;
  conveys = record { value = all_a; spelled = refl; holds = all_a_is_name };
})

pub returns-clause-more_history : goal.returns-clause-more_history
returns-clause-more_history c = gives_at _ _ _ _ _ _ refl (record {
  no_error = no_error_by (codes "unshallow " ++ all_a) refl;
  conveys = record { value = all_a; spelled = refl; holds = all_a_is_name };
})

pub returns-clause-wanted : goal.returns-clause-wanted
returns-clause-wanted c = gives_at _ _ _ _ _ _ refl (record {
  no_error = no_error_by (all_a ++ codes " refs/x") refl;
  conveys = record { id = all_a; spelled = refl; id_is = all_a_is_name; name_is = ref_by (codes "refs/x") refl refl };
})

pub returns-clause-bytes : goal.returns-clause-bytes
returns-clause-bytes c = gives_at _ _ _ _ _ _ refl refl

pub returns-clause-progress_bytes : goal.returns-clause-progress_bytes
returns-clause-progress_bytes c = gives_at _ _ _ _ _ _ refl refl

pub returns-clause-fatal : goal.returns-clause-fatal
returns-clause-fatal c = refuses_at _ _ _ _ _ _ refl refl

pub returns-clause-no_band : goal.returns-clause-no_band
returns-clause-no_band c = refuses_at _ _ _ _ _ _ refl refl

pub returns-clause-bad_band : goal.returns-clause-bad_band
returns-clause-bad_band c = refuses_at _ _ _ _ _ _ refl refl

pub returns-clause-second_section : goal.returns-clause-second_section
returns-clause-second_section c = refuses_at _ _ _ _ _ _ refl (inr (no_error_by (codes "shallow-info") refl, (refl, refl)))

pub returns-clause-flush_before_the_pack : goal.returns-clause-flush_before_the_pack
returns-clause-flush_before_the_pack c = refuses_at _ _ _ _ _ _ refl refl
