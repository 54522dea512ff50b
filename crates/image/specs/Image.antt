-- The image of a state (01, "Calls, refusals and their order"): exactly 48 bytes, each state one image. The layout is ours.
use Rattle.std.specs.Prelude.{ℕ, ◌-◌, Bool, true, ◌&&◌, List, ◌++◌, Option, eqb, length, drop, replicate, fold, zip}
use Rattle.codec.specs.Codec.{is_image, decoded_by}
use Rattle.mssp.specs.Valid.{valid}
use Rattle.firmware.specs.declared.State.{State}
use Rattle.firmware.specs.Handler.{state_of}
use Rattle.module_image.specs.ModulePart.{module_length, module_part, module_from}
use Rattle.image.specs.HandlerPart.{handler_part, handler_from, handler_valid}

abbrev pub image_length : ℕ
image_length = 48

-- Which states there are: the module's clauses and the handler's.
abbrev pub valid_state : State → Bool
valid_state s = valid s.mssp && handler_valid s.handler

-- Zeros after what there is, up to a length.
abbrev pub padded : ℕ → List ℕ → List ℕ
padded n bytes = bytes ++ replicate (n - length bytes) 0

-- The module's part, the handler's, and zeros.
unfoldable pub encode_of : State → List ℕ
encode_of s = padded image_length (module_part s.mssp ++ handler_part s.handler)

-- The state that bytes name, whether they are its image or not.
unfoldable pub parse_of : List ℕ → State
parse_of b = state_of (module_from b) (handler_from (drop module_length b))

-- Bytes are the same, place by place, as far as both rows go.
abbrev pub all_alike : List ℕ → List ℕ → Bool
all_alike xs ys = fold (λ alike p. alike && eqb p.0 p.1) true (zip xs ys)

-- Bytes are a state's image: just that of the state that they name, and there is such a state.
unfoldable pub is_state : List ℕ → Bool
is_state b = is_image encode_of parse_of valid_state b

-- Bytes decode to the state that they name if they are just its image, and there is such a state.
unfoldable pub decode_of : List ℕ → Option State
decode_of b = decoded_by encode_of parse_of valid_state b
