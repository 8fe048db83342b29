-- Lists of starts moved by orders with the clock (Moved), and the timed facts that give such orders (Others).
pub mod Moved
pub mod Others
