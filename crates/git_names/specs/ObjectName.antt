-- Object names, as texts and as values.
use Rattle.std.specs.Prelude.{◌≡◌, ℕ, ◌-◌, ◌<◌, ◌==◌, if◌then◌else◌, List, length, take, drop, replicate, slice_index, ◌++◌}
use Rattle.std.specs.Prelude.{Option, Some, None, Result, Ok, Err, IfOk, IfErr, MatchResult}
use Rattle.hex.specs.Hex.{decode_of, decode_sized, encode_lower}
use Rattle.hex.specs.declared.error.FromHexError.{FromHexError}
use Rattle.git_names.specs.declared.object_format.Format.{Format}
use Rattle.git_names.specs.declared.object_format.Format.TheVariants.{Sha1, Sha256}
use Rattle.git_names.specs.ObjectFormat.{width_of, digits_of}

-- an object name: its format, and 32 bytes; a shorter format uses only the first of them
pub record ObjectName : Type 0 where
  pub format : Format
  pub bytes : List ℕ

-- the bytes of an object name: the first of its 32, as many as its format has
abbrev pub name_bytes : ObjectName → List ℕ
name_bytes id = take (width_of id.format) id.bytes

-- the bytes that the format does not use are zero
abbrev pub IsPadded : ObjectName → Type 0
IsPadded id = drop (width_of id.format) id.bytes ≡ replicate (32 - width_of id.format) 0

-- the text is an object name of the format, and names `id`: `hex` decodes it to the bytes of `id`
pub record IsObjectName (format : Format) (text : List ℕ) (id : ObjectName) : Type 0 where
  pub count : length text ≡ digits_of format
  pub of_format : id.format ≡ format
  pub decodes : decode_of text ≡ Ok (name_bytes id)
  pub padded : IsPadded id

-- the text is no object name of the format
abbrev pub IsNoObjectName : Format → List ℕ → Type 0
IsNoObjectName format text = (id : ObjectName) → ¬ IsObjectName format text id

-- the written form of an object name: what `hex` encodes its bytes to
abbrev pub hex_of : ObjectName → List ℕ
hex_of id = encode_lower (name_bytes id)

-- a value of an object name: 32 bytes, and those after the format's width are zero
pub record IsOid (id : ObjectName) : Type 0 where
  pub size : length id.bytes ≡ 32
  pub in_range : (i : ℕ) → slice_index id.bytes i < 256
  pub padded : IsPadded id

-- the format whose object names have this many digits, or SHA-1 if there is none
abbrev pub format_of_count : ℕ → Format
format_of_count count = if count == digits_of Sha256 then Sha256 else Sha1

-- the result of `hex::decode_to_slice` for the text and a buffer of an object name's size, with zeros after it; None if that is an error
abbrev pub Decodes : Format → List ℕ → Option (List ℕ) → Type 0
Decodes format text result =
    MatchResult (decode_sized text (width_of format))
    (λ bytes. result ≡ Some (bytes ++ replicate (32 - width_of format) 0))
    (λ _. result ≡ None)

-- the result of `hex` for a text: the object name that it is, or the error of decoding it into a buffer of an object name's size
pub record HexReads (text : List ℕ) (result : Result ObjectName FromHexError) : Type 0 where
  pub name : IfOk result (λ id. IsObjectName id.format text id)
  pub refused : IfErr result (λ fault. decode_sized text (width_of (format_of_count (length text))) ≡ Err fault)
