pub mod WorkQuick
