use Rattle.std.proofs.Common.{◌≡◌, ◌++◌, ℕ, List, ap, ◌∙◌, append_assoc, codes}
use Rattle.http.specs.StatusCode.{code_digits}
use Rattle.ojp_http.specs.Responses.{head_text}
use Rattle.ojp_http.proofs.answer.head_of.Goals as goal

-- a part, and what is behind it
behind : (h g a r : List ℕ) → h ≡ g ++ a → h ++ r ≡ g ++ (a ++ r)
behind h g a r e = ap (λ (l : List ℕ). l ++ r) e ∙ append_assoc g a r

pub returns : goal.returns
returns c =
    let d = c.as_bytes.ensures.value ∙ c.as_str.ensures ∙ ap code_digits c.code_of-code.ensures in
    let r = c.as_bytes-2.ensures.value ∙ c.reason_of.ensures.value in
    let a = c.allow_line.ensures.value in
    let t = c.type_line.ensures.value in
    let s = c.as_bytes-3.ensures.value ∙ c.format.ensures.text in
    let l9 = codes "\r\nConnection: close\r\n\r\n" in
    let l8 = c.as_bytes-3.result.now ++ l9 in
    let l7 = codes "Content-Length: " ++ l8 in
    let l6 = c.type_line.result.now ++ l7 in
    let l5 = c.allow_line.result.now ++ l6 in
    let l4 = codes "\r\n" ++ l5 in
    let l3 = c.as_bytes-2.result.now ++ l4 in
    let l2 = codes " " ++ l3 in
    let l1 = c.as_bytes.result.now ++ l2 in
    c.push_part-10.ensures
    ∙ behind c.push_part-9.new.head.items c.push_part-8.new.head.items c.as_bytes-3.result.now l9 c.push_part-9.ensures
    ∙ behind c.push_part-8.new.head.items c.push_part-7.new.head.items (codes "Content-Length: ") l8 c.push_part-8.ensures
    ∙ behind c.push_part-7.new.head.items c.push_part-6.new.head.items c.type_line.result.now l7 c.push_part-7.ensures
    ∙ behind c.push_part-6.new.head.items c.push_part-5.new.head.items c.allow_line.result.now l6 c.push_part-6.ensures
    ∙ behind c.push_part-5.new.head.items c.push_part-4.new.head.items (codes "\r\n") l5 c.push_part-5.ensures
    ∙ behind c.push_part-4.new.head.items c.push_part-3.new.head.items c.as_bytes-2.result.now l4 c.push_part-4.ensures
    ∙ behind c.push_part-3.new.head.items c.push_part-2.new.head.items (codes " ") l3 c.push_part-3.ensures
    ∙ behind c.push_part-2.new.head.items c.push_part.new.head.items c.as_bytes.result.now l2 c.push_part-2.ensures
    ∙ behind c.push_part.new.head.items c.new-head.result.items (codes "HTTP/1.1 ") l1 c.push_part.ensures
    ∙ (λ i. c.new-head.ensures i ++ head_text (d i) (r i) (a i) (t i) (s i))
