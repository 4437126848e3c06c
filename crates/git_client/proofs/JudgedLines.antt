-- A text line that was judged, as the payload that contains it.
use Rattle.std.proofs.Common.{◌≡◌, ℕ, List, Result, Ok, Err, inr, refl, subst}
use Rattle.git_names.specs.declared.object_format.Format.{Format}
use Rattle.git_pkt.specs.Packets.{payload, text_of}
use Rattle.git_pkt.specs.declared.fault.Kind.{Kind}
use Rattle.git_msg.specs.Texts.{IsErrorText}
use Rattle.git_msg.specs.declared.offers.Caps.{Caps}
use Rattle.git_client.specs.Events.{IsLineFault, Refuses, MeansEvents}
use Rattle.git_client.specs.Machine.Turns.{IsTurn, IsLineTurn, Judges, JudgesLine, TakesLines, FitsLine, Fits, place_expected, events_at, line_events}
use Rattle.git_client.specs.declared.events.Ending.{Ending}
use Rattle.git_client.specs.declared.phase.Expected.{Expected}
use Rattle.git_client.specs.declared.phase.Expected.TheVariants.{Packfile, ResponseEnd}
use Rattle.git_client.specs.declared.phase.LineContent.{LineContent}
use Rattle.git_client.specs.declared.phase.Turn.{Turn}

-- what was found in a text line was found in its payload
of_payload : (content : LineContent) (bytes : List ℕ) → FitsLine content (text_of bytes)
    → (line_events content (text_of bytes) ≡ events_at content bytes) × Fits content bytes
of_payload content bytes fits = (refl, fits)

line_turn : (format : Format) (ending : Ending) (expected : Expected) (caps : Caps) (bytes : List ℕ) (content : LineContent) (after : Caps) (turn : Turn)
    → TakesLines expected
    → ¬ IsErrorText (text_of bytes) → IsLineTurn format expected caps (text_of bytes) content after turn
    → IsTurn format ending expected caps (payload bytes) content after turn
line_turn format ending Packfile caps bytes content after turn takes no_error line = absurd takes
line_turn format ending ResponseEnd caps bytes content after turn takes no_error line = absurd takes
line_turn format ending expected caps bytes content after turn takes no_error line =
    let (events, fits) = of_payload content bytes line.conveys.fits in
    record {
      gives = record {
        no_error = no_error;
        conveys = subst
            (MeansEvents (place_expected caps format expected) format (text_of bytes)) events line.conveys.conveys;
      };
      fits = fits;
      notes = line.notes bytes refl;
      next = line.next;
    }

line_refused : (format : Format) (ending : Ending) (expected : Expected) (caps : Caps) (bytes : List ℕ) (kind : Kind) → TakesLines expected
    → ¬ IsErrorText (text_of bytes) → IsLineFault (place_expected caps format expected) format (text_of bytes) kind
    → Refuses format ending (place_expected caps format expected) (payload bytes) kind
line_refused format ending Packfile caps bytes kind takes no_error fault = absurd takes
line_refused format ending ResponseEnd caps bytes kind takes no_error fault = absurd takes
line_refused format ending expected caps bytes kind takes no_error fault = inr (no_error, fault)

-- a text line that is not an error packet
pub line_judged : (format : Format) (ending : Ending) (expected : Expected) (caps : Caps) (bytes : List ℕ) (content : LineContent) (after : Caps)
    (result : Result Turn Kind)
    → TakesLines expected → ¬ IsErrorText (text_of bytes) → JudgesLine format expected caps (text_of bytes) content after result
    → Judges format ending expected caps (payload bytes) content after result
line_judged format ending expected caps bytes content after (Ok turn) takes no_error judged =
    line_turn format ending expected caps bytes content after turn takes no_error judged
line_judged format ending expected caps bytes content after (Err kind) takes no_error (fault, same) =
    (line_refused format ending expected caps bytes kind takes no_error fault, same)
