-- Texts of fixed size, of which only the front counts.
use Rattle.std.proofs.Common.{◌≡◌, ℕ, ◌+◌, ◌≤◌, List, ◌++◌, length, take, sym, ap, ◌∙◌}
use Rattle.std.proofs.lemmas.List.{take-append-le, take-take, length-take-le, append_assoc}
use lib.Seq.{take-append-add}

-- a text is put behind the front of a line, and of both only the front counts
pub piece_put : (line text rest front counted : List ℕ) (len count : ℕ) → len ≤ length line → count ≤ length text
    → take len line ≡ front → take count text ≡ counted
    → take (len + count) (take len line ++ (text ++ rest)) ≡ front ++ counted
piece_put line text rest front counted len count within few same_front same_counted =
    ap (λ n. take (n + count) (take len line ++ (text ++ rest))) (sym (length-take-le len line within))
    ∙ take-append-add (take len line) (text ++ rest) count
    ∙ ap (λ t. take len line ++ t) (take-append-le count text rest few ∙ same_counted)
    ∙ ap (λ t. t ++ counted) same_front

-- the front of a text and of what was appended to it
pub front_put : (old word front : List ℕ) (len : ℕ) → take len word ≡ front → take (length old + len) (old ++ word) ≡ old ++ front
front_put old word front len same = take-append-add old word len ∙ ap (λ t. old ++ t) same

-- one more piece of a line
piece_more : (old line front next more : List ℕ) → line ≡ old ++ front → next ≡ line ++ more → next ≡ old ++ (front ++ more)
piece_more old line front next more first second = second ∙ ap (λ t. t ++ more) first ∙ append_assoc old front more

-- a line of five pieces
pub line_put : (old line e a s b n next third fourth whole : List ℕ) → line ≡ old ++ e → next ≡ line ++ a → third ≡ next ++ s
    → fourth ≡ third ++ b → whole ≡ fourth ++ n → whole ≡ old ++ (e ++ a ++ s ++ b ++ n)
line_put old line e a s b n next third fourth whole begin first space second end =
    piece_more old fourth (e ++ a ++ s ++ b) whole n (piece_more old third (e ++ a ++ s) fourth b (piece_more old next (e ++ a) third s
    (piece_more old line e next a begin first) space) second) end

-- a piece is put in the midst of a text, whose front counts up to it
pub piece_in : (line text post rest front counted : List ℕ) (at count len : ℕ) → at + count ≤ len → at ≤ length line → count ≤ length text
    → take at line ≡ front → take count text ≡ counted
    → take (at + count) (take len ((take at line ++ (text ++ post)) ++ rest)) ≡ front ++ counted
piece_in line text post rest front counted at count len room within few same_front same_counted =
    take-take (at + count) len ((take at line ++ (text ++ post)) ++ rest) room
    ∙ ap (λ l. take (at + count) l) (append_assoc (take at line) (text ++ post) rest ∙ ap (λ t. take at line ++ t) (append_assoc text post rest))
    ∙ piece_put line text (post ++ rest) front counted at count within few same_front same_counted
